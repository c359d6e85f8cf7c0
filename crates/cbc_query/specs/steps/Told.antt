-- The numbers that types tell, and the notes of numbers.
use Rattle.std.specs.Prelude.{ℕ, if◌then◌else◌, List, [], ◌∷◌, ◌++◌, codes, Option, Some, None, slice_get}
use Rattle.std.specs.List.{flat_map}
use Rattle.eb_value.specs.declared.types.EbType.{EbType}
use Rattle.eb_resolved.specs.declared.resolved.Resolved.{Resolved}
use Rattle.eb_forms.specs.Forms.{type_has_integers}
use Rattle.eb_model.specs.declared.model.LabelledFormula.{LabelledFormula}
use Rattle.eb_lowering.specs.declared.setting.Setting.{Setting}
use Rattle.eb_lowering.specs.Lowering.{term_of}
use Rattle.eb_narrow.specs.Narrow.{narrow}
use Rattle.cbc_query.specs.declared.note.Note.{Note}
use Rattle.cbc_query.specs.Limits.{range_types}
use Rattle.cbc_query.specs.Notes.{told_by, name_in, bound_in}

abbrev pub one_at_most : Option ℕ → List ℕ
one_at_most None = []
one_at_most (Some k) = k ∷ []

abbrev pub told_number : EbType → List ℕ
told_number t = one_at_most (told_by t)

-- the numbers that the ranges of the narrow form tell
abbrev pub told_numbers : Setting → Resolved → List ℕ
told_numbers s r = flat_map told_number (range_types (narrow (term_of s r)))

-- the note of a number, where the numbers have these names
abbrev pub named_note : List ℕ → (ℕ → List ℕ) → ℕ → Note
named_note label name k = record { label = codes "@" ++ label; identifier = name k }

abbrev pub named_notes : List EbType → List ℕ → (ℕ → List ℕ) → ℕ → List Note
named_notes types label name k = if type_has_integers (slice_get types k) then (named_note label name k ∷ []) else []

abbrev pub notes_of : Setting → LabelledFormula → List Note
notes_of s l = flat_map (named_notes s.types l.label (name_in (bound_in l.formula))) (told_numbers s l.formula)
