-- Laws of the first of some places.
use Rattle.std.proofs.Common.{◌≡◌, ◌<◌, ℕ, zero, suc, List, [], ◌∷◌, ◌++◌, Some, None, take, length, get_or, ap, sym, subst, refl, arith}
use Rattle.std.specs.List.{flat_map}
use Rattle.eb_lower.specs.Unsupported.{IsFirstOf}

none_both : {A : Type 0} (xs ys : List A) → xs ++ ys ≡ [] → (xs ≡ []) × (ys ≡ [])
none_both [] ys e = (refl, e)
none_both (x ∷ xs) ys e = absurd cc

first_before : (xs ys : List ℕ) (y : ℕ) → IsFirstOf xs (Some y) → IsFirstOf (xs ++ ys) (Some y)
first_before [] ys y h = absurd h
first_before (x ∷ xs) ys y h = h

pub first_at : {A : Type 0} (f : A → List ℕ) (xs : List A) (i : ℕ) (x : A) (y : ℕ) → i < length xs → x ≡ get_or xs i x → flat_map f (take i xs) ≡ [] → IsFirstOf (f x) (Some y) → IsFirstOf (flat_map f xs) (Some y)
first_at f [] i x y l e n h = absurd (omega (arith, l))
first_at f (z ∷ xs) zero x y l e n h = first_before (f z) (flat_map f xs) y (subst (λ w. IsFirstOf (f w) (Some y)) e h)
first_at f (z ∷ xs) (suc i) x y l e n h =
    let both = none_both (f z) (flat_map f (take i xs)) n in
    subst (λ w. IsFirstOf (w ++ flat_map f xs) (Some y)) (sym both.0) (first_at f xs i x y (omega (arith, l)) e both.1 h)

pub none_first : (xs : List ℕ) → IsFirstOf xs None → xs ≡ []
none_first [] h = refl
none_first (x ∷ xs) h = absurd h

pub some_first : (xs : List ℕ) (y : ℕ) → IsFirstOf xs (Some y) → (rest : List ℕ) × (xs ≡ y ∷ rest)
some_first [] y h = absurd h
some_first (x ∷ xs) y h = (xs, ap (λ z. z ∷ xs) h)
