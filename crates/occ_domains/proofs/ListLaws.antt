-- Ascending lists.
use Rattle.std.proofs.Common.{◌≡◌, Bool, true, false, ◌&&◌, List, [], ◌∷◌, filter, refl}
use Rattle.std.specs.List.{list_all}
use Rattle.std.specs.Cmp.{first_so, second_so}
use Rattle.std.specs.declared.cmp.Ordering.{Ordering}
use Rattle.std.specs.declared.cmp.Ordering.TheVariants.{Less, Equal, Greater}
use Rattle.eb_value.specs.declared.value.Value.{Value}
use Rattle.eb_value.specs.Values.{compare, is_ascending, is_less}

abbrev pub Transitive : Type 0
Transitive = (u v w : Value) → compare u v ≡ Less → compare v w ≡ Less → compare u w ≡ Less

pub less_so : (o : Ordering) → is_less o ≡ true → o ≡ Less
less_so Less h = refl
less_so Equal h = cc
less_so Greater h = cc

pub both_so : (s t : Bool) → s ≡ true → t ≡ true → (s && t) ≡ true
both_so s t h k = rw (h, k) refl

pub all_filter : {X : Type 0} (p q : X → Bool) (xs : List X) → list_all p xs ≡ true → list_all p (filter q xs) ≡ true
all_filter p q [] h = refl
all_filter p q (x ∷ xs) h = at (q x) refl (all_filter p q xs (second_so (p x) (list_all p xs) h)) where
  at : (b : Bool) → q x ≡ b → list_all p (filter q xs) ≡ true → list_all p (filter q (x ∷ xs)) ≡ true
  at true e rest = rw e (both_so (p x) (list_all p (filter q xs)) (first_so (p x) (list_all p xs) h) rest)
  at false e rest = rw e rest

-- each value of the list is above x
abbrev pub is_over : Value → List Value → Bool
is_over x ys = list_all (λ y. is_less (compare x y)) ys

module _ (transitive : Transitive) where
  through : (x y : Value) (zs : List Value) → compare x y ≡ Less → is_over y zs ≡ true → is_over x zs ≡ true
  through x y [] h k = refl
  through x y (z ∷ zs) h k =
      let yz : compare y z ≡ Less = less_so (compare y z) (first_so (is_less (compare y z)) (is_over y zs) k) in
      both_so (is_less (compare x z)) (is_over x zs) (rw (transitive x y z h yz) refl) (through x y zs h (second_so (is_less (compare y z)) (is_over y zs) k))

  pub over_rest : (x : Value) (xs : List Value) → is_ascending (x ∷ xs) ≡ true → is_over x xs ≡ true
  over_rest x [] h = refl
  over_rest x (y ∷ ys) h =
      let xy : is_less (compare x y) ≡ true = first_so (is_less (compare x y)) (is_ascending (y ∷ ys)) h in
      let below : is_over y ys ≡ true = over_rest y ys (second_so (is_less (compare x y)) (is_ascending (y ∷ ys)) h) in
      both_so (is_less (compare x y)) (is_over x ys) xy (through x y ys (less_so (compare x y) xy) below)

  pub ascending_rest : (x : Value) (xs : List Value) → is_ascending (x ∷ xs) ≡ true → is_ascending xs ≡ true
  ascending_rest x [] h = refl
  ascending_rest x (y ∷ ys) h = second_so (is_less (compare x y)) (is_ascending (y ∷ ys)) h

  pub over_ascending : (x : Value) (xs : List Value) → is_over x xs ≡ true → is_ascending xs ≡ true → is_ascending (x ∷ xs) ≡ true
  over_ascending x [] h k = refl
  over_ascending x (y ∷ ys) h k = both_so (is_less (compare x y)) (is_ascending (y ∷ ys)) (first_so (is_less (compare x y)) (is_over x ys) h) k

  pub ascending_filter : (q : Value → Bool) (xs : List Value) → is_ascending xs ≡ true → is_ascending (filter q xs) ≡ true
  ascending_filter q [] h = refl
  ascending_filter q (x ∷ xs) h = at (q x) refl (ascending_filter q xs (ascending_rest x xs h)) where
    at : (b : Bool) → q x ≡ b → is_ascending (filter q xs) ≡ true → is_ascending (filter q (x ∷ xs)) ≡ true
    at true e rest = rw e (over_ascending x (filter q xs) (all_filter (λ y. is_less (compare x y)) q xs (over_rest x xs h)) rest)
    at false e rest = rw e rest
