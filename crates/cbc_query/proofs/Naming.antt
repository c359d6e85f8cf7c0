-- The notes of numbers are those of the definition.
use Rattle.std.proofs.Common.{◌≡◌, ◌∙◌, refl, ap, ap₂, ℕ, Bool, true, false, ◌==◌, List, [], ◌∷◌, ◌++◌}
use Rattle.std.specs.Prelude.{Option, Some, None, fold, unwrap_or, if◌then◌else◌, slice_get}
use Rattle.std.specs.List.{flat_map}
use Rattle.std.proofs.lemmas.Grind.{flat_map-append}
use Rattle.std.proofs.lemmas.List.{append-nil}
use Rattle.eb_value.specs.declared.types.EbType.{EbType}
use Rattle.numbered_names.specs.declared.entries.Entry.{Entry}
use Rattle.eb_forms.specs.Forms.{type_has_integers}
use Rattle.eb_model.specs.declared.model.LabelledFormula.{LabelledFormula}
use Rattle.cbc_query.specs.Notes.{name_in, bound_in, told_by, note_of}
use Rattle.cbc_query.specs.steps.Named.{or_name, first_name}
use Rattle.cbc_query.specs.steps.Told.{one_at_most, told_number, named_note, named_notes}

-- ---- the name of a number

name_kept : (k : ℕ) (x : List ℕ) (es : List Entry) → fold (or_name k) (Some x) es ≡ Some x
name_kept k x [] = refl
name_kept k x (e ∷ es) = name_kept k x es

name_by : (k : ℕ) (e : Entry) (es : List Entry) (b : Bool) → unwrap_or (fold (or_name k) None es) [] ≡ name_in es k
    → unwrap_or (fold (or_name k) (if b then Some e.name else None) es) [] ≡ (if b then e.name else name_in es k)
name_by k e es true h = ap (λ o. unwrap_or o []) (name_kept k e.name es)
name_by k e es false h = h

pub name_is : (k : ℕ) (es : List Entry) → unwrap_or (first_name k es) [] ≡ name_in es k
name_is k [] = refl
name_is k (e ∷ es) = name_by k e es (e.number == k) (name_is k es)

-- ---- the notes of numbers

note_same : (types : List EbType) (label : List ℕ) (f g : ℕ → List ℕ) (k : ℕ) → f k ≡ g k → named_notes types label f k ≡ named_notes types label g k
note_same types label f g k e = ap (λ (x : List ℕ). if type_has_integers (slice_get types k) then (named_note label (λ j. x) k ∷ []) else []) e

-- names that are the same give the same notes
pub notes_same : (types : List EbType) (label : List ℕ) (f g : ℕ → List ℕ) (ks : List ℕ) → ((k : ℕ) → f k ≡ g k)
    → flat_map (named_notes types label f) ks ≡ flat_map (named_notes types label g) ks
notes_same types label f g [] h = refl
notes_same types label f g (k ∷ ks) h = ap₂ (λ x y. x ++ y) (note_same types label f g k (h k)) (notes_same types label f g ks h)

told_note : (types : List EbType) (l : LabelledFormula) (o : Option ℕ) → flat_map (named_notes types l.label (name_in (bound_in l.formula))) (one_at_most o) ≡ note_of types l o
told_note types l None = refl
told_note types l (Some k) = append-nil (named_notes types l.label (name_in (bound_in l.formula)) k)

-- the notes of the numbers that types tell are those of the types
pub told_notes : (types : List EbType) (l : LabelledFormula) (ts : List EbType)
    → flat_map (named_notes types l.label (name_in (bound_in l.formula))) (flat_map told_number ts) ≡ flat_map (λ t. note_of types l (told_by t)) ts
told_notes types l [] = refl
told_notes types l (t ∷ ts) =
    flat_map-append (named_notes types l.label (name_in (bound_in l.formula))) (told_number t) (flat_map told_number ts)
    ∙ ap₂ (λ x y. x ++ y) (told_note types l (told_by t)) (told_notes types l ts)
