-- A place is read from its text, with what stands in brackets behind it.
use Rattle.std.proofs.Common.{◌≡◌, ◌∙◌, refl, sym, ap, ap₂, subst, ℕ, List, [], ◌∷◌, ◌++◌, length, take, drop, ◌==◌, Bool, true, false, not, ◌&&◌, cond, Option, Some, None}
use Rattle.std.specs.Prelude.{codes, decimal, option_and_then, option_map}
use Rattle.std.proofs.lemmas.List.{take-append-drop}
use Rattle.std.proofs.Math.Seq.{take-append_seam, drop-append_seam}
use Rattle.occurrences.specs.declared.place.Place.{Place}
use Rattle.occurrences.specs.declared.place.Place.TheVariants as place
use Rattle.tree_lines.specs.Words.{bracketed, located}
use Rattle.tree_lines.specs.Written.{is_word, is_none, is_small, is_located}
use Rattle.tree_lines.specs.steps.Reading as spec
use Rattle.tree_lines.proofs.NumberLaws.{both_true, natural_is, natural_printed}
use Rattle.tree_lines.proofs.FormParts.{stripped_is, unended_is, unended_back, all_append, number_is_word, number_then, number_alone}

-- the place and what stands behind it, of which the text is
abbrev pub IsLocated : List ℕ → Place × List ℕ → Type 0
IsLocated text x = (text ≡ located x.0 x.1) × (is_located x.0 x.1 ≡ true)

append_none : (xs : List ℕ) → xs ++ [] ≡ xs
append_none [] = refl
append_none (x ∷ xs) = ap (λ y. x ∷ y) (append_none xs)

-- ---- from the text

some_by : (text inside : List ℕ) (b : Bool) → not (is_none text) && is_word text ≡ b → cond b (Some text) None ≡ Some inside → (inside ≡ text) × (not (is_none text) ≡ true) × (is_word text ≡ true)
some_by text inside true e same = let both = both_true (not (is_none text)) (is_word text) e in
    (let one : inside ≡ text = cc in one, both.0, both.1)
some_by text inside false e same = absurd (cc)

bracketed_some : (text : List ℕ) → not (is_none text) ≡ true → bracketed text ≡ codes "[" ++ (text ++ codes "]")
bracketed_some [] h = absurd (cc)
bracketed_some (b ∷ bs) h = refl

inside_by : (text inside : List ℕ) (behind front : Option (List ℕ)) → spec.stripped (codes "[") text ≡ behind → option_and_then (spec.unended (codes "]")) behind ≡ front
    → option_and_then spec.some_word front ≡ Some inside → (text ≡ bracketed inside) × (is_word inside ≡ true)
inside_by text inside None front eb ef same = absurd (let none : None ≡ front = ef in cc)
inside_by text inside (Some rest) None eb ef same = absurd (cc)
inside_by text inside (Some rest) (Some word) eb ef same =
    let some = some_by word inside (not (is_none word) && is_word word) refl same in
    let whole : text ≡ codes "[" ++ (word ++ codes "]") = stripped_is (codes "[") text rest eb ∙ ap (λ x. codes "[" ++ x) (unended_is (codes "]") rest word ef) in
    (whole ∙ sym (bracketed_some word some.1) ∙ ap bracketed (sym some.0), subst (λ x. is_word x ≡ true) (sym some.0) some.2)

inside_is : (text inside : List ℕ) → spec.inside_of text ≡ Some inside → (text ≡ bracketed inside) × (is_word inside ≡ true)
inside_is [] inside same = (let one : [] ≡ inside = cc in ap bracketed one, let one : [] ≡ inside = cc in subst (λ x. is_word x ≡ true) one refl)
inside_is (b ∷ bs) inside same = inside_by (b ∷ bs) inside (spec.stripped (codes "[") (b ∷ bs)) (option_and_then (spec.unended (codes "]")) (spec.stripped (codes "[") (b ∷ bs))) refl refl same

choice_by : (text : List ℕ) (x : Place × List ℕ) (o : Option ℕ) → spec.natural_of text ≡ o → option_map (λ k. (place.Choice k, [])) o ≡ Some x → IsLocated (codes "c" ++ text) x
choice_by text x None e same = absurd (cc)
choice_by text x (Some k) e same =
    let one : (place.Choice k, []) ≡ x = cc in
    let number = natural_is text k e in
    subst (IsLocated (codes "c" ++ text)) one (ap (λ y. codes "c" ++ y) (number.1 ∙ sym (append_none (decimal k))), rw number.0 refl)

definition_by : (text : List ℕ) (x : Place × List ℕ) (o : Option ℕ) → spec.natural_of text ≡ o → option_map (λ k. (place.Definition k, [])) o ≡ Some x → IsLocated (codes "d" ++ text) x
definition_by text x None e same = absurd (cc)
definition_by text x (Some k) e same =
    let one : (place.Definition k, []) ≡ x = cc in
    let number = natural_is text k e in
    subst (IsLocated (codes "d" ++ text)) one (ap (λ y. codes "d" ++ y) (number.1 ∙ sym (append_none (decimal k))), rw number.0 refl)

node_by : (text : List ℕ) (x : Place × List ℕ) (n : Option ℕ) (i : Option (List ℕ)) → spec.natural_of (take (spec.number_length text) text) ≡ n
    → spec.inside_of (drop (spec.number_length text) text) ≡ i → spec.node_with n i ≡ Some x → IsLocated (codes "p" ++ text) x
node_by text x None i en ei same = absurd (cc)
node_by text x (Some k) None en ei same = absurd (cc)
node_by text x (Some k) (Some inside) en ei same =
    let one : (place.Node k, inside) ≡ x = cc in
    let number = natural_is (take (spec.number_length text) text) k en in
    let within = inside_is (drop (spec.number_length text) text) inside ei in
    let whole : text ≡ decimal k ++ bracketed inside = sym (take-append-drop (spec.number_length text) text) ∙ ap₂ (λ y z. y ++ z) number.1 within.0 in
    subst (IsLocated (codes "p" ++ text)) one (ap (λ y. codes "p" ++ y) whole, rw (number.0, within.1) refl)

located_by : (text : List ℕ) (x : Place × List ℕ) (c d p : Option (List ℕ)) → spec.stripped (codes "c") text ≡ c → spec.stripped (codes "d") text ≡ d → spec.stripped (codes "p") text ≡ p
    → spec.by_rest c spec.choice_of (spec.by_rest d spec.definition_of (spec.by_rest p spec.node_of None)) ≡ Some x → IsLocated text x
located_by text x (Some rest) d p ec ed ep same = subst (λ t. IsLocated t x) (sym (stripped_is (codes "c") text rest ec)) (choice_by rest x (spec.natural_of rest) refl same)
located_by text x None (Some rest) p ec ed ep same = subst (λ t. IsLocated t x) (sym (stripped_is (codes "d") text rest ed)) (definition_by rest x (spec.natural_of rest) refl same)
located_by text x None None (Some rest) ec ed ep same = subst (λ t. IsLocated t x) (sym (stripped_is (codes "p") text rest ep))
    (node_by rest x (spec.natural_of (take (spec.number_length rest) rest)) (spec.inside_of (drop (spec.number_length rest) rest)) refl refl same)
located_by text x None None None ec ed ep same = absurd (cc)

pub located_is : (text : List ℕ) (x : Place × List ℕ) → spec.located_of text ≡ Some x → IsLocated text x
located_is text x same = located_by text x (spec.stripped (codes "c") text) (spec.stripped (codes "d") text) (spec.stripped (codes "p") text) refl refl refl same

-- ---- and back

inside_back : (inside : List ℕ) → is_word inside ≡ true → spec.inside_of (bracketed inside) ≡ Some inside
inside_back [] h = refl
inside_back (b ∷ bs) h = rw (unended_back (b ∷ bs) (codes "]"), h) refl

node_back : (k : ℕ) (inside : List ℕ) → is_small k ≡ true → is_word inside ≡ true → spec.node_of (decimal k ++ bracketed inside) ≡ Some (place.Node k, inside)
node_back k [] small word =
    let n : spec.number_length (decimal k ++ []) ≡ length (decimal k) = number_alone k small in
    let front : take (length (decimal k)) (decimal k ++ []) ≡ decimal k = take-append_seam (decimal k) [] in
    let back : drop (length (decimal k)) (decimal k ++ []) ≡ [] = drop-append_seam (decimal k) [] in
    rw (n, front, back, natural_printed k small) refl
node_back k (b ∷ bs) small word =
    let n : spec.number_length (decimal k ++ bracketed (b ∷ bs)) ≡ length (decimal k) = number_then k ((b ∷ bs) ++ codes "]") small in
    let front : take (length (decimal k)) (decimal k ++ bracketed (b ∷ bs)) ≡ decimal k = take-append_seam (decimal k) (bracketed (b ∷ bs)) in
    let back : drop (length (decimal k)) (decimal k ++ bracketed (b ∷ bs)) ≡ bracketed (b ∷ bs) = drop-append_seam (decimal k) (bracketed (b ∷ bs)) in
    ap₂ spec.node_with (ap spec.natural_of (ap (λ m. take m (decimal k ++ bracketed (b ∷ bs))) n ∙ front) ∙ natural_printed k small)
    (ap spec.inside_of (ap (λ m. drop m (decimal k ++ bracketed (b ∷ bs))) n ∙ back) ∙ inside_back (b ∷ bs) word)

alone : (k : ℕ) (inside : List ℕ) → is_small k && is_none inside ≡ true → (is_small k ≡ true) × (inside ≡ [])
alone k [] h = ((both_true (is_small k) true h).0, refl)
alone k (b ∷ bs) h = absurd (let no = (both_true (is_small k) false h).1 in cc)

pub located_back : (at : Place) (inside : List ℕ) → is_located at inside ≡ true → spec.located_of (located at inside) ≡ Some (at, inside)
located_back (place.Choice k) inside h =
    let a = alone k inside h in
    let number : spec.natural_of (decimal k ++ []) ≡ Some k = ap spec.natural_of (append_none (decimal k)) ∙ natural_printed k a.0 in
    subst (λ i. spec.located_of (located (place.Choice k) i) ≡ Some (place.Choice k, i)) (sym a.1) (ap (option_map (λ k. (place.Choice k, []))) number)
located_back (place.Definition k) inside h =
    let a = alone k inside h in
    let number : spec.natural_of (decimal k ++ []) ≡ Some k = ap spec.natural_of (append_none (decimal k)) ∙ natural_printed k a.0 in
    subst (λ i. spec.located_of (located (place.Definition k) i) ≡ Some (place.Definition k, i)) (sym a.1) (ap (option_map (λ k. (place.Definition k, []))) number)
located_back (place.Node k) inside h = let both = both_true (is_small k) (is_word inside) h in node_back k inside both.0 both.1

bracketed_word : (inside : List ℕ) → is_word inside ≡ true → is_word (bracketed inside) ≡ true
bracketed_word [] h = refl
bracketed_word (b ∷ bs) h = all_append (λ b. not (b == 32) && not (b == 10)) (b ∷ bs) (codes "]") h refl

-- a place with what stands in brackets is a word
pub located_word : (at : Place) (inside : List ℕ) → is_located at inside ≡ true → is_word (located at inside) ≡ true
located_word (place.Choice k) inside h = let a = alone k inside h in
    subst (λ i. is_word (located (place.Choice k) i) ≡ true) (sym a.1) (all_append (λ b. not (b == 32) && not (b == 10)) (decimal k) [] (number_is_word k a.0) refl)
located_word (place.Definition k) inside h = let a = alone k inside h in
    subst (λ i. is_word (located (place.Definition k) i) ≡ true) (sym a.1) (all_append (λ b. not (b == 32) && not (b == 10)) (decimal k) [] (number_is_word k a.0) refl)
located_word (place.Node k) inside h =
    let both = both_true (is_small k) (is_word inside) h in
    all_append (λ b. not (b == 32) && not (b == 10)) (decimal k) (bracketed inside) (number_is_word k both.0) (bracketed_word inside both.1)
