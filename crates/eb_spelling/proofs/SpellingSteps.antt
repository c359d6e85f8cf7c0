-- Steps of what writes the tokens of a formula.
use Rattle.std.proofs.Common.{◌≡◌, ◌∙◌, ℕ, List, [], ◌∷◌, ◌++◌, map, take, drop, length, get_or, ◌-◌, ◌≤◌, sym, ap, refl, arith, append_assoc}
use Rattle.std.proofs.lemmas.List.{take_all, take_rest}
use Rattle.std.specs.List.{flat_map}

-- a list with an element is its first one before the others, as a slice pattern gives them
pub first_others : {A : Type 0} (xs : List A) (x : A) → 1 ≤ length xs → x ≡ get_or xs 0 x → xs ≡ x ∷ take (length xs - 1) (drop 1 xs)
first_others [] x h e = absurd (omega arith)
first_others (y ∷ xs) x h e = rw (take_rest (y ∷ xs) 1) (ap (λ z. z ∷ xs) (sym e))

-- after the last turn all of the others are written behind the first
pub others_done : {A B : Type 0} (f : List B) (g : A → List B) (others : List A) (old mid out : List B) (i : ℕ) → mid ≡ old ++ f → out ≡ mid ++ flat_map g (take i others) → length others ≤ i → out ≡ old ++ (f ++ flat_map g others)
others_done f g others old mid out i m t l = t ∙ (ap (λ xs. mid ++ flat_map g xs) (take_all i others l) ∙ (ap (λ xs. xs ++ flat_map g others) m ∙ append_assoc old f (flat_map g others)))

pub flat_mapped : {A B C : Type 0} (k : A → B) (h : B → List C) (xs : List A) → flat_map (λ x. h (k x)) xs ≡ flat_map h (map k xs)
flat_mapped k h [] = refl
flat_mapped k h (x ∷ xs) = ap (λ z. h (k x) ++ z) (flat_mapped k h xs)
