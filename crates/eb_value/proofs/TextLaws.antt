-- The text of a value, by its parts.
use Rattle.std.proofs.Common.{◌≡◌, ◌∙◌, ℕ, Bool, ℤ, List, [], ◌∷◌, ◌++◌, map, take, drop, length, get_or, ◌-◌, ◌≤◌, sym, ap, arith, rules, append-nil, append_assoc}
use Rattle.std.proofs.lemmas.List.{take_all, take_rest}
use Rattle.std.specs.List.{join_with_byte, flat_map}
use Rattle.std.specs.Prelude.{codes}
use Rattle.std.specs.Fmt.{signed_decimal}
use Rattle.eb_value.specs.declared.value.Value.{Value, the_lemmas}
use Rattle.eb_value.specs.Values.{int, truth, atom, pair, set}
use Rattle.eb_value.specs.Texts.{value_text, truth_text, atom_text}

pub value_text-int : (names : List (List ℕ)) (n : ℤ) → value_text names (int n) ≡ signed_decimal n
value_text-int names n = search (rules, the_lemmas)

pub value_text-truth : (names : List (List ℕ)) (b : Bool) → value_text names (truth b) ≡ truth_text b
value_text-truth names b = search (rules, the_lemmas)

pub value_text-atom : (names : List (List ℕ)) (place k : ℕ) → value_text names (atom place k) ≡ atom_text names place k
value_text-atom names place k = search (rules, the_lemmas)

pub value_text-pair : (names : List (List ℕ)) (a b : Value) → value_text names (pair a b) ≡ codes "(" ++ (value_text names a ++ (codes "|->" ++ (value_text names b ++ codes ")")))
value_text-pair names a b = search (rules, the_lemmas)

pub value_text-set : (names : List (List ℕ)) (xs : List Value) → value_text names (set xs) ≡ codes "{" ++ (join_with_byte 44 (map (value_text names) xs) ++ codes "}")
value_text-set names xs = search (rules, the_lemmas)

-- joined texts are the first, and then each other one behind a comma
pub joined : {A : Type 0} (f : A → List ℕ) (x : A) (xs : List A) → join_with_byte 44 (map f (x ∷ xs)) ≡ f x ++ flat_map (λ y. 44 ∷ f y) xs
joined f x [] = sym (append-nil (f x))
joined f x (y ∷ ys) = ap (λ t. f x ++ (44 ∷ t)) (joined f y ys)

-- a list with an element is its first one before the others, as a slice pattern gives them
pub first_others : {A : Type 0} (xs : List A) (x : A) → 1 ≤ length xs → x ≡ get_or xs 0 x → xs ≡ x ∷ take (length xs - 1) (drop 1 xs)
first_others [] x h e = absurd (omega arith)
first_others (y ∷ xs) x h e = rw (take_rest (y ∷ xs) 1) (ap (λ z. z ∷ xs) (sym e))

pub members_done : (f : Value → List ℕ) (members others : List Value) (first : Value) (old mid text : List ℕ) (i : ℕ) → members ≡ first ∷ others → mid ≡ old ++ f first → text ≡ mid ++ flat_map (λ v. 44 ∷ f v) (take i others) → length others ≤ i → text ≡ old ++ join_with_byte 44 (map f members)
members_done f members others first old mid text i e m t l =
    t ∙ ap (λ xs. mid ++ flat_map (λ v. 44 ∷ f v) xs) (take_all i others l) ∙ ap (λ xs. xs ++ flat_map (λ v. 44 ∷ f v) others) m ∙ append_assoc old (f first) (flat_map (λ v. 44 ∷ f v) others) ∙ ap (λ xs. old ++ xs) (sym (joined f first others) ∙ ap (λ xs. join_with_byte 44 (map f xs)) (sym e))

-- a text that is written piece by piece
pub pair_written : (names : List (List ℕ)) (v a b : Value) (old t u w x y : List ℕ) → v ≡ pair a b → t ≡ old ++ codes "(" → u ≡ t ++ value_text names a → w ≡ u ++ codes "|->" → x ≡ w ++ value_text names b → y ≡ x ++ codes ")" → y ≡ old ++ value_text names v
pair_written names v a b old t u w x y is e f g h i =
    let p = value_text names a in
    let q = value_text names b in
    i ∙ ap (λ z. z ++ codes ")") (h ∙ ap (λ z. z ++ q) (g ∙ ap (λ z. z ++ codes "|->") (f ∙ ap (λ z. z ++ p) e)))
    ∙ append_assoc (((old ++ codes "(") ++ p) ++ codes "|->") q (codes ")")
    ∙ append_assoc ((old ++ codes "(") ++ p) (codes "|->") (q ++ codes ")")
    ∙ append_assoc (old ++ codes "(") p (codes "|->" ++ (q ++ codes ")"))
    ∙ append_assoc old (codes "(") (p ++ (codes "|->" ++ (q ++ codes ")")))
    ∙ ap (λ z. old ++ z) (sym (ap (value_text names) is ∙ value_text-pair names a b))

pub set_written : (names : List (List ℕ)) (v : Value) (xs : List Value) (old t u w : List ℕ) → v ≡ set xs → t ≡ old ++ codes "{" → u ≡ t ++ join_with_byte 44 (map (value_text names) xs) → w ≡ u ++ codes "}" → w ≡ old ++ value_text names v
set_written names v xs old t u w is e f g =
    let p = join_with_byte 44 (map (value_text names) xs) in
    g ∙ ap (λ z. z ++ codes "}") (f ∙ ap (λ z. z ++ p) e)
    ∙ append_assoc (old ++ codes "{") p (codes "}")
    ∙ append_assoc old (codes "{") (p ++ codes "}")
    ∙ ap (λ z. old ++ z) (sym (ap (value_text names) is ∙ value_text-set names xs))
