-- A test is read from its text.
use Rattle.std.proofs.Common.{◌≡◌, ◌∙◌, refl, sym, ap, ap₂, subst, arith, ℕ, ℤ, List, [], ◌∷◌, ◌++◌, take, drop, ◌==◌, Bool, true, false, not, ◌&&◌, ◌||◌, cond, Option, Some, None}
use Rattle.std.specs.Prelude.{codes, map, option_and_then, option_map}
use Rattle.std.specs.Fmt.{signed_decimal}
use Rattle.std.specs.Str.{bytes_eq}
use Rattle.std.proofs.lemmas.List.{take-append-drop}
use Rattle.eb_value.specs.Typing.{in_range}
use Rattle.eb_term.specs.declared.operators.Side.{Side}
use Rattle.eb_term.specs.declared.operators.Side.TheVariants as side
use Rattle.tree_lines.specs.Words.{letters, path_text}
use Rattle.tree_lines.specs.Written.{Asked, Written, asked_text, written_text, is_word, is_none, is_small, is_located, is_asked, is_written}
use Rattle.tree_lines.specs.Written as form
use Rattle.tree_lines.specs.steps.Reading as spec
use Rattle.tree_lines.proofs.NumberLaws.{both_true, same_bytes, integer_is, integer_printed}
use Rattle.tree_lines.proofs.FormParts.{stripped_is}
use Rattle.tree_lines.proofs.TestForms.{path_front, path_behind, sides_of_path}

-- ---- paths

letter_by : (b : ℕ) (bs : List ℕ) (one two : Bool) → b == 49 ≡ one → b == 50 ≡ two → one || two ≡ true → letters (map spec.side_of bs) ≡ bs
    → letters (cond one side.First side.Second ∷ map spec.side_of bs) ≡ b ∷ bs
letter_by b bs true two e f h more = ap₂ (λ x y. x ∷ y) (let same : 49 ≡ b = grind arith in same) more
letter_by b bs false true e f h more = ap₂ (λ x y. x ∷ y) (let same : 50 ≡ b = grind arith in same) more
letter_by b bs false false e f h more = absurd (cc)

letters_of_sides : (word : List ℕ) → spec.is_of_sides word ≡ true → letters (map spec.side_of word) ≡ word
letters_of_sides [] h = refl
letters_of_sides (b ∷ bs) h =
    let both = both_true ((b == 49) || (b == 50)) (spec.is_of_sides bs) h in
    letter_by b bs (b == 49) (b == 50) refl refl both.0 (letters_of_sides bs both.1)

path_by : (word : List ℕ) (dash : Bool) → bytes_eq word (codes "-") ≡ dash → dash || (not (is_none word) && spec.is_of_sides word) ≡ true → path_text (cond dash [] (map spec.side_of word)) ≡ word
path_by word true e h = sym (same_bytes word (codes "-") e)
path_by [] false e h = absurd (cc)
path_by (b ∷ bs) false e h = letters_of_sides (b ∷ bs) h

-- the word of the path that a word is
pub path_is : (word : List ℕ) → spec.is_path word ≡ true → path_text (spec.sides word) ≡ word
path_is word h = path_by word (bytes_eq word (codes "-")) refl h

letters_are_sides : (p : List Side) → spec.is_of_sides (letters p) ≡ true
letters_are_sides [] = refl
letters_are_sides (side.First ∷ p) = letters_are_sides p
letters_are_sides (side.Second ∷ p) = letters_are_sides p

pub path_is_path : (p : List Side) → spec.is_path (path_text p) ≡ true
path_is_path [] = refl
path_is_path (side.First ∷ p) = letters_are_sides p
path_is_path (side.Second ∷ p) = letters_are_sides p

-- ---- a path and what stands behind it

-- the text is this path, a space, and this
abbrev IsPathed : List ℕ → List ℕ × List ℕ → Type 0
IsPathed text x = text ≡ path_text (spec.sides x.0) ++ (32 ∷ x.1)

pathed_if : (text rest word : List ℕ) (x : List ℕ × List ℕ) (b : Bool) → spec.is_path word ≡ b → text ≡ word ++ (32 ∷ rest) → cond b (Some (word, rest)) None ≡ Some x → IsPathed text x
pathed_if text rest word x true e whole same =
    let one : (word, rest) ≡ x = cc in
    subst (IsPathed text) one (whole ∙ ap (λ y. y ++ (32 ∷ rest)) (sym (path_is word e)))
pathed_if text rest word x false e whole same = absurd (cc)

pathed_by : (text : List ℕ) (x : List ℕ × List ℕ) (o : Option (List ℕ)) → spec.stripped (codes " ") (drop (spec.word_length text) text) ≡ o
    → spec.path_with (take (spec.word_length text) text) o ≡ Some x → IsPathed text x
pathed_by text x None e same = absurd (cc)
pathed_by text x (Some rest) e same = pathed_if text rest (take (spec.word_length text) text) x (spec.is_path (take (spec.word_length text) text)) refl
    (sym (take-append-drop (spec.word_length text) text) ∙ ap (λ y. take (spec.word_length text) text ++ y) (stripped_is (codes " ") (drop (spec.word_length text) text) rest e)) same

pathed_is : (text : List ℕ) (x : List ℕ × List ℕ) → spec.path_of text ≡ Some x → IsPathed text x
pathed_is text x same = pathed_by text x (spec.stripped (codes " ") (drop (spec.word_length text) text)) refl same

pathed_back : (p : List Side) (rest : List ℕ) → spec.path_of (path_text p ++ (32 ∷ rest)) ≡ Some (path_text p, rest)
pathed_back p rest = ap₂ (λ word behind. spec.path_with word (spec.stripped (codes " ") behind)) (path_front p rest) (path_behind p rest)
    ∙ ap (λ b. cond b (Some (path_text p, rest)) None) (path_is_path p)

-- a path's word and a number
numbered_by : (text : List ℕ) (x : List ℕ × ℤ) (o : Option (List ℕ × List ℕ)) → spec.path_of text ≡ o → option_and_then (λ y. option_map (λ n. (y.0, n)) (spec.integer_of y.1)) o ≡ Some x
    → (text ≡ path_text (spec.sides x.0) ++ (32 ∷ signed_decimal x.1)) × (in_range x.1 ≡ true)
numbered_by text x None e same = absurd (cc)
numbered_by text x (Some y) e same = number_by text x y (spec.integer_of y.1) refl (pathed_is text y e) same where
  number_by : (text : List ℕ) (x : List ℕ × ℤ) (y : List ℕ × List ℕ) (o : Option ℤ) → spec.integer_of y.1 ≡ o → IsPathed text y → option_map (λ n. (y.0, n)) o ≡ Some x
      → (text ≡ path_text (spec.sides x.0) ++ (32 ∷ signed_decimal x.1)) × (in_range x.1 ≡ true)
  number_by text x y None e whole same = absurd (cc)
  number_by text x y (Some n) e whole same =
      let one : (y.0, n) ≡ x = cc in
      let i = integer_is y.1 n e in
      subst (λ z. (text ≡ path_text (spec.sides z.0) ++ (32 ∷ signed_decimal z.1)) × (in_range z.1 ≡ true)) one
      (whole ∙ ap (λ w. path_text (spec.sides y.0) ++ (32 ∷ w)) i.1, i.0)

worded_by : (text : List ℕ) (x : List ℕ × List ℕ) (o : Option (List ℕ × List ℕ)) → spec.path_of text ≡ o → option_and_then (λ y. cond (is_word y.1) (Some (y.0, y.1)) None) o ≡ Some x
    → IsPathed text x × (is_word x.1 ≡ true)
worded_by text x None e same = absurd (cc)
worded_by text x (Some y) e same = word_by text x y (is_word y.1) refl (pathed_is text y e) same where
  word_by : (text : List ℕ) (x y : List ℕ × List ℕ) (b : Bool) → is_word y.1 ≡ b → IsPathed text y → cond b (Some (y.0, y.1)) None ≡ Some x → IsPathed text x × (is_word x.1 ≡ true)
  word_by text x y true e whole same = let one : (y.0, y.1) ≡ x = cc in subst (λ z. IsPathed text z × (is_word z.1 ≡ true)) one (whole, e)
  word_by text x y false e whole same = absurd (cc)

-- ---- tests

-- the test that the text is
abbrev IsTestText : List ℕ → Asked → Type 0
IsTestText text asked = (text ≡ asked_text asked) × (is_asked asked ≡ true)

-- a test with a number, or with a word, behind its own word
at_most_by : (text : List ℕ) (a : Asked) (o : Option (List ℕ × ℤ)) → spec.numbered_of text ≡ o → option_map (λ x. form.at_most (spec.sides x.0) x.1) o ≡ Some a → IsTestText (codes "le " ++ text) a
at_most_by text a None e same = absurd (cc)
at_most_by text a (Some x) e same =
    let one : form.at_most (spec.sides x.0) x.1 ≡ a = cc in
    let i = numbered_by text x (spec.path_of text) refl e in
    subst (IsTestText (codes "le " ++ text)) one (ap (λ y. codes "le " ++ y) i.0, i.1)

card_by : (text : List ℕ) (a : Asked) (o : Option (List ℕ × ℤ)) → spec.numbered_of text ≡ o → option_map (λ x. form.card (spec.sides x.0) x.1) o ≡ Some a → IsTestText (codes "card " ++ text) a
card_by text a None e same = absurd (cc)
card_by text a (Some x) e same =
    let one : form.card (spec.sides x.0) x.1 ≡ a = cc in
    let i = numbered_by text x (spec.path_of text) refl e in
    subst (IsTestText (codes "card " ++ text)) one (ap (λ y. codes "card " ++ y) i.0, i.1)

is_by : (text : List ℕ) (a : Asked) (o : Option (List ℕ × List ℕ)) → spec.worded_of text ≡ o → option_map (λ x. form.is (spec.sides x.0) x.1) o ≡ Some a → IsTestText (codes "is " ++ text) a
is_by text a None e same = absurd (cc)
is_by text a (Some x) e same =
    let one : form.is (spec.sides x.0) x.1 ≡ a = cc in
    let i = worded_by text x (spec.path_of text) refl e in
    subst (IsTestText (codes "is " ++ text)) one (ap (λ y. codes "is " ++ y) i.0, i.1)

has_by : (text : List ℕ) (a : Asked) (o : Option (List ℕ × List ℕ)) → spec.worded_of text ≡ o → option_map (λ x. form.has (spec.sides x.0) x.1) o ≡ Some a → IsTestText (codes "has " ++ text) a
has_by text a None e same = absurd (cc)
has_by text a (Some x) e same =
    let one : form.has (spec.sides x.0) x.1 ≡ a = cc in
    let i = worded_by text x (spec.path_of text) refl e in
    subst (IsTestText (codes "has " ++ text)) one (ap (λ y. codes "has " ++ y) i.0, i.1)

value_test_by : (text : List ℕ) (a : Asked) (l i h c : Option (List ℕ)) → spec.stripped (codes "le ") text ≡ l → spec.stripped (codes "is ") text ≡ i → spec.stripped (codes "has ") text ≡ h
    → spec.stripped (codes "card ") text ≡ c → spec.by_rest l (spec.numbered form.at_most) (spec.by_rest i (spec.worded form.is) (spec.by_rest h (spec.worded form.has) (spec.by_rest c (spec.numbered form.card) None))) ≡ Some a
    → IsTestText text a
value_test_by text a (Some rest) i h c el ei eh ec same = subst (λ t. IsTestText t a) (sym (stripped_is (codes "le ") text rest el)) (at_most_by rest a (spec.numbered_of rest) refl same)
value_test_by text a None (Some rest) h c el ei eh ec same = subst (λ t. IsTestText t a) (sym (stripped_is (codes "is ") text rest ei)) (is_by rest a (spec.worded_of rest) refl same)
value_test_by text a None None (Some rest) c el ei eh ec same = subst (λ t. IsTestText t a) (sym (stripped_is (codes "has ") text rest eh)) (has_by rest a (spec.worded_of rest) refl same)
value_test_by text a None None None (Some rest) el ei eh ec same = subst (λ t. IsTestText t a) (sym (stripped_is (codes "card ") text rest ec)) (card_by rest a (spec.numbered_of rest) refl same)
value_test_by text a None None None None el ei eh ec same = absurd (cc)

test_by : (text : List ℕ) (a : Asked) (d t f u : Bool) → bytes_eq text (codes "def") ≡ d → bytes_eq text (codes "true") ≡ t → bytes_eq text (codes "false") ≡ f → bytes_eq text (codes "undef") ≡ u
    → cond d (Some form.says_defined) (cond t (Some form.says_true) (cond f (Some form.says_false) (cond u (Some form.says_undefined) (spec.value_test_of text)))) ≡ Some a → IsTestText text a
test_by text a true t f u ed et ef eu same = let one : form.says_defined ≡ a = cc in subst (IsTestText text) one (same_bytes text (codes "def") ed, refl)
test_by text a false true f u ed et ef eu same = let one : form.says_true ≡ a = cc in subst (IsTestText text) one (same_bytes text (codes "true") et, refl)
test_by text a false false true u ed et ef eu same = let one : form.says_false ≡ a = cc in subst (IsTestText text) one (same_bytes text (codes "false") ef, refl)
test_by text a false false false true ed et ef eu same = let one : form.says_undefined ≡ a = cc in subst (IsTestText text) one (same_bytes text (codes "undef") eu, refl)
test_by text a false false false false ed et ef eu same = value_test_by text a (spec.stripped (codes "le ") text) (spec.stripped (codes "is ") text) (spec.stripped (codes "has ") text) (spec.stripped (codes "card ") text) refl refl refl refl same

pub test_is : (text : List ℕ) (a : Asked) → spec.test_of text ≡ Some a → IsTestText text a
test_is text a same = test_by text a (bytes_eq text (codes "def")) (bytes_eq text (codes "true")) (bytes_eq text (codes "false")) (bytes_eq text (codes "undef")) refl refl refl refl same

numbered_back : (p : List Side) (n : ℤ) → in_range n ≡ true → spec.numbered_of (path_text p ++ (32 ∷ signed_decimal n)) ≡ Some (path_text p, n)
numbered_back p n small = ap (option_and_then (λ x. option_map (λ m. (x.0, m)) (spec.integer_of x.1))) (pathed_back p (signed_decimal n)) ∙ ap (option_map (λ m. (path_text p, m))) (integer_printed n small)

worded_back : (p : List Side) (word : List ℕ) → is_word word ≡ true → spec.worded_of (path_text p ++ (32 ∷ word)) ≡ Some (path_text p, word)
worded_back p word h = ap (option_and_then (λ x. cond (is_word x.1) (Some (x.0, x.1)) None)) (pathed_back p word) ∙ ap (λ b. cond b (Some (path_text p, word)) None) h

pub test_back : (a : Asked) → is_asked a ≡ true → spec.test_of (asked_text a) ≡ Some a
test_back (form.at_most p n) h = ap (option_map (λ x. form.at_most (spec.sides x.0) x.1)) (numbered_back p n h) ∙ ap (λ q. Some (form.at_most q n)) (sides_of_path p)
test_back (form.is p w) h = ap (option_map (λ x. form.is (spec.sides x.0) x.1)) (worded_back p w h) ∙ ap (λ q. Some (form.is q w)) (sides_of_path p)
test_back (form.has p w) h = ap (option_map (λ x. form.has (spec.sides x.0) x.1)) (worded_back p w h) ∙ ap (λ q. Some (form.has q w)) (sides_of_path p)
test_back (form.card p n) h = ap (option_map (λ x. form.card (spec.sides x.0) x.1)) (numbered_back p n h) ∙ ap (λ q. Some (form.card q n)) (sides_of_path p)
test_back form.says_defined h = refl
test_back form.says_true h = refl
test_back form.says_false h = refl
test_back form.says_undefined h = refl
