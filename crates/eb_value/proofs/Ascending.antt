-- Lists in which each element is below all later ones.
use Rattle.std.proofs.Common.{◌≡◌, ◌∙◌, ℕ, zero, suc, ◌<◌, ◌↔◌, ⊎_elim, inl, inr, ◌⊎◌, Bool, true, false, ◌&&◌, cond, List, [], ◌∷◌, ◌++◌, map, filter, length, get_or, refl, sym, ap, subst, arith}
use Rattle.std.specs.List.{Contains}
use Rattle.std.proofs.lemmas.List.Elements.{Contains-append_cases, Contains-get_or}
use Rattle.std.specs.Cmp.{second_so}
use Rattle.std.specs.declared.cmp.Ordering.{Ordering}
use Rattle.std.specs.declared.cmp.Ordering.TheVariants.{Less, Equal, Greater}
use Rattle.eb_value.specs.declared.value.Value.{Value}
use Rattle.eb_value.specs.Values.{compare, is_less, is_ascending}
use Rattle.eb_value.proofs.OrderLaws.{reflexive, transitive}
use Rattle.eb_value.proofs.Members.{contains_none, contains_cases, contains_here, contains_there}

abbrev pub Rises : {A : Type 0} → (A → A → Type 0) → List A → Type 0
Rises R [] = Unit {0}
Rises {A} R (x ∷ xs) = ((y : A) → Contains xs y → R x y) × Rises R xs

abbrev pub Below : Value → Value → Type 0
Below v w = compare v w ≡ Less

pub not_below : (v : Value) → Below v v → ⊥
not_below v h = let e : Equal ≡ Less = sym (reflexive v) ∙ h in cc

pub not_both_below : (v w : Value) → Below v w → Below w v → ⊥
not_both_below v w h k = not_below v (transitive v w v h k)

less_is : (o : Ordering) → is_less o ≡ true → o ≡ Less
less_is Less h = refl
less_is Equal h = cc
less_is Greater h = cc

pub first_true : (s t : Bool) → (s && t) ≡ true → s ≡ true
first_true true t h = refl
first_true false t h = cc

pub rises : (xs : List Value) → is_ascending xs ≡ true → Rises Below xs
rises [] h = tt
rises (x ∷ []) h = (λ y k. absurd (contains_none y k), tt)
rises (x ∷ y ∷ ys) h =
    let next : Below x y = less_is (compare x y) (first_true (is_less (compare x y)) (is_ascending (y ∷ ys)) h) in
    let later : Rises Below (y ∷ ys) = rises (y ∷ ys) (second_so (is_less (compare x y)) (is_ascending (y ∷ ys)) h) in
    (λ z k. ⊎_elim (λ e. subst (Below x) e next) (λ m. transitive x y z next (later.0 z m)) (contains_cases y ys z k), later)

pub ascending : (xs : List Value) → Rises Below xs → is_ascending xs ≡ true
ascending [] h = refl
ascending (x ∷ []) h = refl
ascending (x ∷ y ∷ ys) h = rw (h.0 y (contains_here y ys y refl)) (ascending (y ∷ ys) h.1)

-- ascending lists with the same members are equal
pub same_members : (xs ys : List Value) → Rises Below xs → Rises Below ys → ((v : Value) → Contains xs v ↔ Contains ys v) → xs ≡ ys
same_members [] [] h k s = refl
same_members [] (y ∷ ys) h k s = absurd (contains_none y ((s y).1 (contains_here y ys y refl)))
same_members (x ∷ xs) [] h k s = absurd (contains_none x ((s x).0 (contains_here x xs x refl)))
same_members (x ∷ xs) (y ∷ ys) h k s =
    let first : x ≡ y = ⊎_elim (λ e. sym e)
    (λ m. ⊎_elim (λ e. e) (λ n. absurd (not_both_below x y (h.0 y n) (k.0 x m))) (contains_cases x xs y ((s y).1 (contains_here y ys y refl))))
    (contains_cases y ys x ((s x).0 (contains_here x xs x refl))) in
    let others : xs ≡ ys = same_members xs ys h.1 k.1 (λ v. (
      λ m. ⊎_elim (λ e. absurd (not_below x (subst (Below x) (sym (first ∙ e)) (h.0 v m)))) (λ n. n) (contains_cases y ys v ((s v).0 (contains_there x xs v m))),
      λ m. ⊎_elim (λ e. absurd (not_below y (subst (Below y) (sym (sym first ∙ e)) (k.0 v m)))) (λ n. n) (contains_cases x xs v ((s v).1 (contains_there y ys v m))),
    )) in
    cc

-- ---- what keeps the order

module _ {A : Type 0} (R : A → A → Type 0) where
  pub rises_append : (xs ys : List A) → Rises R xs → Rises R ys → ((x y : A) → Contains xs x → Contains ys y → R x y) → Rises R (xs ++ ys)
  rises_append [] ys h k b = k
  rises_append (x ∷ xs) ys h k b = (
    λ z m. ⊎_elim (h.0 z) (b x z (contains_here x xs x refl)) (Contains-append_cases xs ys z m),
    rises_append xs ys h.1 k (λ u v m n. b u v (contains_there x xs u m) n),
  )

pub contains_map : {A B : Type 0} (f : A → B) (xs : List A) (v : B) → Contains (map f xs) v → (x : A) × Contains xs x × (f x ≡ v)
contains_map f [] v h = absurd (contains_none v h)
contains_map f (x ∷ xs) v h = ⊎_elim
    (λ e. (x, contains_here x xs x refl, e))
    (λ m. let r = contains_map f xs v m in (r.0, contains_there x xs r.0 r.1, r.2))
    (contains_cases (f x) (map f xs) v h)

pub map_contains : {A B : Type 0} (f : A → B) (xs : List A) (x : A) → Contains xs x → Contains (map f xs) (f x)
map_contains f [] x h = absurd (contains_none x h)
map_contains f (y ∷ xs) x h = ⊎_elim
    (λ e. contains_here (f y) (map f xs) (f x) (ap f e))
    (λ m. contains_there (f y) (map f xs) (f x) (map_contains f xs x m))
    (contains_cases y xs x h)

pub rises_map : {A B : Type 0} (R : A → A → Type 0) (S : B → B → Type 0) (f : A → B) → ((x y : A) → R x y → S (f x) (f y)) → (xs : List A) → Rises R xs → Rises S (map f xs)
rises_map R S f up [] h = tt
rises_map R S f up (x ∷ xs) h =
    (λ z m. let r = contains_map f xs z m in subst (S (f x)) r.2 (up x r.0 (h.0 r.0 r.1)), rises_map R S f up xs h.1)

-- ---- a filter

pub filter_split : {A : Type 0} (x : A) (kept : List A) (b : Bool) (v : A) → Contains (cond b (x ∷ kept) kept) v → ((x ≡ v) × (b ≡ true)) ⊎ Contains kept v
filter_split x kept true v h = ⊎_elim (λ e. inl (e, refl)) (λ m. inr m) (contains_cases x kept v h)
filter_split x kept false v h = inr h

pub filter_join : {A : Type 0} (x : A) (kept : List A) (b : Bool) (v : A) → ((x ≡ v) × (b ≡ true)) ⊎ Contains kept v → Contains (cond b (x ∷ kept) kept) v
filter_join x kept true v h = ⊎_elim (λ e. contains_here x kept v e.0) (λ m. contains_there x kept v m) h
filter_join x kept false v h = ⊎_elim (λ e. absurd (let k : false ≡ true = e.1 in cc)) (λ m. m) h

pub contains_filter : {A : Type 0} (p : A → Bool) (xs : List A) (v : A) → Contains (filter p xs) v ↔ (Contains xs v × (p v ≡ true))
contains_filter p [] v = (λ h. absurd (contains_none v h), λ h. absurd (contains_none v h.0))
contains_filter p (x ∷ xs) v = (
  λ h. ⊎_elim (λ e. (contains_here x xs v e.0, ap p (sym e.0) ∙ e.1)) (λ m. let r = (contains_filter p xs v).0 m in (contains_there x xs v r.0, r.1)) (filter_split x (filter p xs) (p x) v h),
  λ h. filter_join x (filter p xs) (p x) v (⊎_elim (λ e. inl (e, ap p e ∙ h.1)) (λ m. inr ((contains_filter p xs v).1 (m, h.1))) (contains_cases x xs v h.0)),
)

pub filter_rises : {A : Type 0} (R : A → A → Type 0) (x : A) (kept : List A) (b : Bool) → ((y : A) → Contains kept y → R x y) → Rises R kept → Rises R (cond b (x ∷ kept) kept)
filter_rises R x kept true h k = (h, k)
filter_rises R x kept false h k = k

pub rises_filter : {A : Type 0} (R : A → A → Type 0) (p : A → Bool) (xs : List A) → Rises R xs → Rises R (filter p xs)
rises_filter R p [] h = tt
rises_filter R p (x ∷ xs) h = filter_rises R x (filter p xs) (p x) (λ y m. h.0 y ((contains_filter p xs y).0 m).0) (rises_filter R p xs h.1)

-- ---- by places

pub below_at : (xs : List Value) → Rises Below xs → (i j : ℕ) (d : Value) → i < j → j < length xs → Below (get_or xs i d) (get_or xs j d)
below_at [] h i j d l m = absurd (omega arith)
below_at (x ∷ xs) h i zero d l m = absurd (omega arith)
below_at (x ∷ xs) h zero (suc j) d l m = h.0 (get_or xs j d) (Contains-get_or xs j d (omega arith))
below_at (x ∷ xs) h (suc i) (suc j) d l m = below_at xs h.1 i j d (omega arith) (omega arith)
