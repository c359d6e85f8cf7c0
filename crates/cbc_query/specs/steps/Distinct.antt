-- Notes without repetition, note by note.
use Rattle.std.specs.Prelude.{◌≡◌, Bool, ◌&&◌, if◌then◌else◌, List, [], ◌∷◌, ◌++◌}
use Rattle.std.specs.List.{list_any}
use Rattle.std.specs.Str.{bytes_eq}
use Rattle.std.specs.declared.cmp.Ordering.{Ordering}
use Rattle.std.specs.Ordering.{ordering_then}
use Rattle.std.specs.declared.string.String.{String}
use Rattle.std.specs.String.{string_cmp, string_bytes}
use Rattle.std.specs.BTreeSet.{BTreeSet, contains}
use Rattle.cbc_query.specs.declared.note.Note.{Note}
use Rattle.cbc_query.specs.Notes.{same_note}

-- a note more, if it isn't there yet
abbrev pub with_note : List Note → Note → List Note
with_note ds n = if list_any (same_note n) ds then ds else ds ++ n ∷ []

abbrev pub with_all : List Note → List Note → List Note
with_all ds [] = ds
with_all ds (n ∷ ns) = with_all (with_note ds n) ns

module _ {Y : Type 0} where
  -- how pairs of texts are ordered
  abbrev pub text_order : String Y × String Y → String Y × String Y → Ordering
  text_order x y = ordering_then (string_cmp x.0 y.0) (string_cmp x.1 y.1)

  -- the note has these texts
  abbrev pub has_texts : String Y × String Y → Note → Bool
  has_texts k n = bytes_eq (string_bytes k.0) n.label && bytes_eq (string_bytes k.1) n.identifier

  -- a set has the texts of just these notes
  abbrev pub AreTexts : BTreeSet (String Y × String Y) → List Note → Type 0
  AreTexts texts notes = (k : String Y × String Y) → contains text_order texts k ≡ list_any (has_texts k) notes
