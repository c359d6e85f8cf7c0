-- The set of the texts of notes.
use Rattle.std.proofs.Common.{◌≡◌, ◌∙◌, refl, sym, ap, ap₂, Bool, true, false, not, cond, ◌&&◌, ◌||◌, List, [], ◌∷◌, ◌++◌}
use Rattle.std.specs.Prelude.{if◌then◌else◌}
use Rattle.std.specs.List.{list_any}
use Rattle.std.specs.Str.{bytes_eq}
use Rattle.std.specs.Ordering.{is_eq}
use Rattle.std.specs.Cmp.{tied_then}
use Rattle.std.specs.declared.string.String.{String}
use Rattle.std.specs.String.{string_cmp, string_bytes}
use Rattle.std.specs.BTreeSet.{BTreeSet, contains, Updates}
use Rattle.std.proofs.lemmas.List.Folds.{list_any-append}
use Rattle.std.proofs.lemmas.Map.Text.{is_eq-slice_cmp}
use Rattle.cbc_query.specs.declared.note.Note.{Note}
use Rattle.cbc_query.specs.Notes.{same_note}
use Rattle.cbc_query.specs.steps.Distinct.{with_note, text_order, has_texts, AreTexts}
use Rattle.cbc_query.proofs.Distinctness.{bytes_flip}

either_way : (b x : Bool) → cond b true x ≡ (x || (b || false))
either_way true true = refl
either_way true false = refl
either_way false true = refl
either_way false false = refl

module _ {Y : Type 0} where
  -- the texts are those of the note
  abbrev pub IsOf : String Y × String Y → Note → Type 0
  IsOf k n = (string_bytes k.0 ≡ n.label) × (string_bytes k.1 ≡ n.identifier)

  order_is : (k j : String Y × String Y) → is_eq (text_order k j) ≡ (bytes_eq (string_bytes k.0) (string_bytes j.0) && bytes_eq (string_bytes k.1) (string_bytes j.1))
  order_is k j =
      sym (tied_then (string_cmp k.0 j.0) (string_cmp k.1 j.1))
      ∙ ap₂ (λ x y. x && y) (is_eq-slice_cmp (string_bytes k.0) (string_bytes j.0)) (is_eq-slice_cmp (string_bytes k.1) (string_bytes j.1))

  -- the order's test is that of the note
  own_test : (k j : String Y × String Y) (n : Note) → IsOf k n → is_eq (text_order k j) ≡ has_texts j n
  own_test k j n e =
      order_is k j
      ∙ ap₂ (λ x y. x && y) (bytes_flip (string_bytes k.0) (string_bytes j.0) ∙ ap (bytes_eq (string_bytes j.0)) e.0)
      (bytes_flip (string_bytes k.1) (string_bytes j.1) ∙ ap (bytes_eq (string_bytes j.1)) e.1)

  pub same_there : (k : String Y × String Y) (n : Note) (ds : List Note) → IsOf k n → list_any (has_texts k) ds ≡ list_any (same_note n) ds
  same_there k n ds e = ap₂ (λ x y. list_any (λ (d : Note). bytes_eq x d.label && bytes_eq y d.identifier) ds) e.0 e.1

  -- with the texts of a note more
  pub with_texts : (old new : BTreeSet (String Y × String Y)) (k : String Y × String Y) (n : Note) (ds : List Note) → AreTexts old ds → IsOf k n → Updates text_order old new k true → AreTexts new (ds ++ n ∷ [])
  with_texts old new k n ds h e u = λ j.
      u.0 j
      ∙ (ap₂ (λ b x. cond b true x) (own_test k j n e) (h j)
      ∙ (either_way (has_texts j n) (list_any (has_texts j) ds) ∙ sym (list_any-append (has_texts j) ds (n ∷ []))))

  -- a text that is there
  pub nothing_new : (texts : BTreeSet (String Y × String Y)) (k : String Y × String Y) (n : Note) (ds : List Note) → AreTexts texts ds → IsOf k n → contains text_order texts k ≡ true → with_note ds n ≡ ds
  nothing_new texts k n ds h e there = ap (λ b. if b then ds else ds ++ n ∷ []) (sym (same_there k n ds e) ∙ (sym (h k) ∙ there))

  -- and one that isn't
  pub one_new : (texts : BTreeSet (String Y × String Y)) (k : String Y × String Y) (n : Note) (ds : List Note) → AreTexts texts ds → IsOf k n → contains text_order texts k ≡ false → with_note ds n ≡ ds ++ n ∷ []
  one_new texts k n ds h e there = ap (λ b. if b then ds else ds ++ n ∷ []) (sym (same_there k n ds e) ∙ (sym (h k) ∙ there))

  pub same_keys : (old new : BTreeSet (String Y × String Y)) (ds : List Note) → new.keys ≡ old.keys → AreTexts old ds → AreTexts new ds
  same_keys old new ds e h = λ j. ap (list_any (λ k. is_eq (text_order j k))) e ∙ h j

pub there_from : (b x : Bool) → b ≡ not x → b ≡ false → x ≡ true
there_from b true e f = refl
there_from b false e f = absurd (cc)

pub absent_from : (b x : Bool) → b ≡ not x → b ≡ true → x ≡ false
absent_from b true e f = absurd (cc)
absent_from b false e f = refl
