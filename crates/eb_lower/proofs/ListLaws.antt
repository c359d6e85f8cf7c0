-- Members of lists.
use Rattle.std.proofs.Common.{◌≡◌, ◌∙◌, ◌⊎◌, ◌∷◌, [], zero, suc, Bool, true, false, cond, List, Contains, map, filter, sym, ap, refl, subst, arith, inl, inr, ⊎_elim}
use Rattle.std.proofs.lemmas.List.Elements.{Contains-append_right}

pub contains_none : {A : Type 0} (v : A) → Contains [] v → ⊥
contains_none v h = omega (arith, h.1)

pub contains_here : {A : Type 0} (x : A) (xs : List A) → Contains (x ∷ xs) x
contains_here x xs = (0, omega arith, refl)

pub contains_there : {A : Type 0} (x : A) (xs : List A) (v : A) → Contains xs v → Contains (x ∷ xs) v
contains_there x xs v h = Contains-append_right (x ∷ []) xs v h

pub contains_cases : {A : Type 0} (x : A) (xs : List A) (v : A) → Contains (x ∷ xs) v → (x ≡ v) ⊎ Contains xs v
contains_cases x xs v (zero, l, e) = inl e
contains_cases x xs v (suc k, l, e) = inr (k, omega (arith, l), e)

pub contains_map : {A B : Type 0} (f : A → B) (xs : List A) (v : B) → Contains (map f xs) v → (x : A) × Contains xs x × (f x ≡ v)
contains_map f [] v h = absurd (contains_none v h)
contains_map f (x ∷ xs) v h = ⊎_elim
    (λ e. (x, contains_here x xs, e))
    (λ m. let r = contains_map f xs v m in (r.0, contains_there x xs r.0 r.1, r.2))
    (contains_cases (f x) (map f xs) v h)

pub map_contains : {A B : Type 0} (f : A → B) (xs : List A) (x : A) → Contains xs x → Contains (map f xs) (f x)
map_contains f [] x h = absurd (contains_none x h)
map_contains f (y ∷ xs) x h = ⊎_elim
    (λ e. subst (λ z. Contains (f y ∷ map f xs) (f z)) e (contains_here (f y) (map f xs)))
    (λ m. contains_there (f y) (map f xs) (f x) (map_contains f xs x m))
    (contains_cases y xs x h)

-- what a filter keeps
pub filter_keeps : {A : Type 0} (p : A → Bool) (xs : List A) (x : A) → Contains xs x → p x ≡ true → Contains (filter p xs) x
filter_keeps p [] x h t = absurd (contains_none x h)
filter_keeps p (y ∷ xs) x h t = ⊎_elim
    (λ e. subst (λ b. Contains (cond b (y ∷ filter p xs) (filter p xs)) x) (sym (ap p e ∙ t)) (subst (λ z. Contains (y ∷ filter p xs) z) e (contains_here y (filter p xs))))
    (λ m. behind (p y) (filter_keeps p xs x m t))
    (contains_cases y xs x h)
  where
    behind : (b : Bool) → Contains (filter p xs) x → Contains (cond b (y ∷ filter p xs) (filter p xs)) x
    behind true m = contains_there y (filter p xs) x m
    behind false m = m

filter_split : {A : Type 0} (p : A → Bool) (y : A) (xs : List A) (x : A) (b : Bool) → p y ≡ b → (Contains (filter p xs) x → Contains xs x × (p x ≡ true)) → Contains (cond b (y ∷ filter p xs) (filter p xs)) x → Contains (y ∷ xs) x × (p x ≡ true)
filter_split p y xs x true e ih m = ⊎_elim
    (λ s. (subst (λ z. Contains (y ∷ xs) z) s (contains_here y xs), ap p (sym s) ∙ e))
    (λ n. let r = ih n in (contains_there y xs x r.0, r.1))
    (contains_cases y (filter p xs) x m)
filter_split p y xs x false e ih m = let r = ih m in (contains_there y xs x r.0, r.1)

pub filter_kept : {A : Type 0} (p : A → Bool) (xs : List A) (x : A) → Contains (filter p xs) x → Contains xs x × (p x ≡ true)
filter_kept p [] x h = absurd (contains_none x h)
filter_kept p (y ∷ xs) x h = filter_split p y xs x (p y) refl (filter_kept p xs x) h
