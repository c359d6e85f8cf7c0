-- Membership in a list, by its first element and the others.
use Rattle.std.proofs.Common.{◌≡◌, ℕ, zero, suc, ◌<◌, ◌⊎◌, inl, inr, List, [], ◌∷◌, length, get_or, arith}
use Rattle.std.specs.List.{Contains}

pub contains_none : {A : Type 0} (v : A) → Contains [] v → ⊥
contains_none v h = let l : h.0 < 0 = h.1 in omega arith

cases_at : {A : Type 0} (x : A) (xs : List A) (v : A) (k : ℕ) → k < length (x ∷ xs) → get_or (x ∷ xs) k v ≡ v → (x ≡ v) ⊎ Contains xs v
cases_at x xs v zero l e = inl e
cases_at x xs v (suc k) l e = inr (k, omega arith, e)

pub contains_cases : {A : Type 0} (x : A) (xs : List A) (v : A) → Contains (x ∷ xs) v → (x ≡ v) ⊎ Contains xs v
contains_cases x xs v h = cases_at x xs v h.0 h.1 h.2

pub contains_here : {A : Type 0} (x : A) (xs : List A) (v : A) → x ≡ v → Contains (x ∷ xs) v
contains_here x xs v e = (0, omega arith, e)

pub contains_there : {A : Type 0} (x : A) (xs : List A) (v : A) → Contains xs v → Contains (x ∷ xs) v
contains_there x xs v h = let l : h.0 < length xs = h.1 in (suc h.0, omega arith, h.2)
