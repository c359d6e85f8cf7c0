-- Notes: which bound identifiers take their values from the scope, since no set that they belong to is told, where integers are
-- among these values.
use Rattle.std.specs.Prelude.{ℕ, Bool, true, false, not, ◌&&◌, ◌==◌, if◌then◌else◌, List, [], ◌∷◌, ◌++◌, filter, codes, Option, Some, None, slice_get}
use Rattle.std.specs.List.{flat_map}
use Rattle.std.specs.Str.{bytes_eq}
use Rattle.eb_value.specs.declared.scope.Scope.{Scope}
use Rattle.eb_value.specs.declared.types.EbType.{EbType, out-EbType}
use Rattle.eb_value.specs.declared.types.Shape.{Shape, Shape-F, out-Shape}
use Rattle.eb_value.specs.declared.types.Shape.TheOpen as ty
use Rattle.numbered_names.specs.declared.entries.Entry.{Entry}
use Rattle.eb_resolved.specs.declared.resolved.Resolved.{Resolved}
use Rattle.eb_resolved.specs.declared.resolved.ResolvedNode.{ResolvedNode-F}
use Rattle.eb_resolved.specs.declared.resolved.ResolvedNode.TheOpen as form
use Rattle.eb_resolved.specs.Formulas.{by_parts}
use Rattle.eb_resolved.specs.Resolving.{entries_from}
use Rattle.eb_forms.specs.Forms.{type_has_integers}
use Rattle.eb_forms.specs.Widths.{bound_identifiers}
use Rattle.eb_model.specs.declared.model.LabelledFormula.{LabelledFormula}
use Rattle.eb_model.specs.declared.model.EbModel.{EbModel}
use Rattle.eb_term.specs.declared.term.Term.{Term}
use Rattle.eb_lowering.specs.declared.setting.Ranges.TheVariants as ranges
use Rattle.eb_lowering.specs.Lowering.{term_of}
use Rattle.eb_narrow.specs.Narrow.{narrow}
use Rattle.cbc_query.specs.declared.note.Note.{Note}
use Rattle.cbc_query.specs.Parts.{axioms}
use Rattle.cbc_query.specs.Settings.{setting_of}
use Rattle.cbc_query.specs.Limits.{range_types}

abbrev pub bound_step : ResolvedNode-F (List Entry) (List Entry) → List Entry
bound_step (form.Number n) = []
bound_step (form.Identifier k) = []
bound_step (form.Primed k) = []
bound_step (form.Unknown x is_primed) = []
bound_step (form.Constant c) = []
bound_step (form.Mark c k) = []
bound_step (form.Prefix o a) = a
bound_step (form.Call c a) = a
bound_step (form.Inverse a) = a
bound_step (form.Operator o a b) = a ++ b
bound_step (form.Quantifier q es p) = es ++ p
bound_step (form.Binder o b first p e) = entries_from first (bound_identifiers b) ++ (p ++ e)
bound_step (form.Comprehension es p e) = es ++ (p ++ e)
bound_step (form.Builder es e p) = es ++ (e ++ p)
bound_step (form.Extension rs) = flat_map (λ r. r) rs
bound_step (form.Partition rs) = flat_map (λ r. r) rs

-- the identifiers that a formula binds, with their numbers
abbrev pub bound_in : Resolved → List Entry
bound_in = by_parts (List Entry) bound_step

-- the name of a number
abbrev pub name_in : List Entry → ℕ → List ℕ
name_in [] k = []
name_in (x ∷ xs) k = if x.number == k then x.name else name_in xs k

abbrev pub shape : EbType → Shape-F Shape EbType
shape t = out-Shape (out-EbType t).shape

abbrev pub is_integer : Shape-F Shape EbType → Bool
is_integer ty.Integer = true
is_integer t = false

abbrev pub carrier_number : Shape-F Shape EbType → Option ℕ
carrier_number (ty.Carrier k) = Some k
carrier_number t = None

abbrev pub told_by_shape : Shape-F Shape EbType → Option ℕ
told_by_shape (ty.Product a b) = if is_integer (shape a) then carrier_number (shape b) else None
told_by_shape t = None

-- the number that a type tells
abbrev pub told_by : EbType → Option ℕ
told_by t = told_by_shape (shape t)

-- The narrow form of a formula in which each range over all values of an identifier's type tells the identifier. (Forms of
-- relations over integers don't stand in a formula, so nothing else tells a number.)
abbrev pub told_term : Scope → EbModel → List EbType → Resolved → Term
told_term scope m types r = narrow (term_of (setting_of scope m types ranges.Told) r)

abbrev pub note : LabelledFormula → ℕ → Note
note l k = record { label = codes "@" ++ l.label; identifier = name_in (bound_in l.formula) k }

-- a note of an identifier whose type has integers
abbrev pub note_of : List EbType → LabelledFormula → Option ℕ → List Note
note_of types l None = []
note_of types l (Some k) = if type_has_integers (slice_get types k) then (note l k ∷ []) else []

-- the notes of a formula, in the order of its narrow form
abbrev pub formula_notes : Scope → EbModel → List EbType → LabelledFormula → List Note
formula_notes scope m types l = flat_map (λ t. note_of types l (told_by t)) (range_types (told_term scope m types l.formula))

abbrev pub same_note : Note → Note → Bool
same_note a b = bytes_eq a.label b.label && bytes_eq a.identifier b.identifier

-- a repeated note once, where it stands first
abbrev pub distinct : List Note → List Note
distinct [] = []
distinct (n ∷ ns) = n ∷ filter (λ o. not (same_note n o)) (distinct ns)

-- the notes of the problem of the axioms
abbrev pub axioms_notes : Scope → EbModel → List EbType → List Note
axioms_notes scope m types = distinct (flat_map (formula_notes scope m types) (axioms m))
