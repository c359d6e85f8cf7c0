-- Tests of all elements of a list, and its elements one by one.
use Rattle.std.proofs.Common.{◌≡◌, ◌∙◌, ℕ, zero, suc, ◌<◌, ◌⊎◌, inl, inr, ⊎_elim, Bool, true, ◌&&◌, ◌++◌, List, [], ◌∷◌, length, get_or, map, refl, sym, ap, arith}
use Rattle.std.specs.List.{Contains, list_all, flat_map}
use Rattle.std.specs.Cmp.{first_so, second_so}

contains_none : {A : Type 0} (v : A) → Contains [] v → ⊥
contains_none v h = let l : h.0 < 0 = h.1 in omega arith

cases_at : {A : Type 0} (x : A) (xs : List A) (v : A) (k : ℕ) → k < length (x ∷ xs) → get_or (x ∷ xs) k v ≡ v → (x ≡ v) ⊎ Contains xs v
cases_at x xs v zero l e = inl e
cases_at x xs v (suc k) l e = inr (k, omega arith, e)

contains_cases : {A : Type 0} (x : A) (xs : List A) (v : A) → Contains (x ∷ xs) v → (x ≡ v) ⊎ Contains xs v
contains_cases x xs v h = cases_at x xs v h.0 h.1 h.2

contains_here : {A : Type 0} (x : A) (xs : List A) → Contains (x ∷ xs) x
contains_here x xs = (0, omega arith, refl)

contains_there : {A : Type 0} (x : A) (xs : List A) (v : A) → Contains xs v → Contains (x ∷ xs) v
contains_there x xs v h = let l : h.0 < length xs = h.1 in (suc h.0, omega arith, h.2)

pub both_so : (s t : Bool) → s ≡ true → t ≡ true → (s && t) ≡ true
both_so s t h k = rw (h, k) refl

pub all_so : {A : Type 0} (p : A → Bool) (xs : List A) → list_all p xs ≡ true → (v : A) → Contains xs v → p v ≡ true
all_so p [] h v m = absurd (contains_none v m)
all_so p (x ∷ xs) h v m = ⊎_elim (λ e. ap p (sym e) ∙ first_so (p x) (list_all p xs) h) (all_so p xs (second_so (p x) (list_all p xs) h) v) (contains_cases x xs v m)

pub so_all : {A : Type 0} (p : A → Bool) (xs : List A) → ((v : A) → Contains xs v → p v ≡ true) → list_all p xs ≡ true
so_all p [] h = refl
so_all p (x ∷ xs) h = both_so (p x) (list_all p xs) (h x (contains_here x xs)) (so_all p xs (λ v m. h v (contains_there x xs v m)))

-- of the results of a function
pub all_map : {A B : Type 0} (p : A → Bool) (q : B → Bool) (f : A → B) (xs : List A) → ((v : A) → p v ≡ true → q (f v) ≡ true) → list_all p xs ≡ true → list_all q (map f xs) ≡ true
all_map p q f [] k h = refl
all_map p q f (x ∷ xs) k h = both_so (q (f x)) (list_all q (map f xs)) (k x (first_so (p x) (list_all p xs) h)) (all_map p q f xs k (second_so (p x) (list_all p xs) h))

pub all_joined : {A : Type 0} (p : A → Bool) (xs ys : List A) → list_all p xs ≡ true → list_all p ys ≡ true → list_all p (xs ++ ys) ≡ true
all_joined p [] ys h k = k
all_joined p (x ∷ xs) ys h k = both_so (p x) (list_all p (xs ++ ys)) (first_so (p x) (list_all p xs) h) (all_joined p xs ys (second_so (p x) (list_all p xs) h) k)

-- of the results of a function that gives lists
pub all_flat_map : {A B : Type 0} (p : A → Bool) (q : B → Bool) (f : A → List B) (xs : List A) → ((v : A) → p v ≡ true → list_all q (f v) ≡ true) → list_all p xs ≡ true → list_all q (flat_map f xs) ≡ true
all_flat_map p q f [] k h = refl
all_flat_map p q f (x ∷ xs) k h = all_joined q (f x) (flat_map f xs) (k x (first_so (p x) (list_all p xs) h)) (all_flat_map p q f xs k (second_so (p x) (list_all p xs) h))
