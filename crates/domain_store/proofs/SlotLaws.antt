-- Each occurrence has a slot of its own.
use Rattle.std.proofs.Common.{◌≡◌, refl, sym, ap, ap₂, ℕ, ◌+◌, ◌<◌, List, [], ◌∷◌, length, Some, None, arith, Bool, true, false, if◌then◌else◌, nat_eq, nat_lt}
use Rattle.std.specs.Cmp.{first_so, second_so}
use Rattle.std.proofs.lemmas.Bool.Decides.{nat_tests}
use Rattle.eb_value.specs.declared.value.Value.{Value}
use Rattle.eb_value.specs.Values.{compare}
use Rattle.eb_value.specs.Comprehensions.{same}
use Rattle.std.specs.Ordering.{is_eq}
use Rattle.std.specs.declared.cmp.Ordering.{Ordering}
use Rattle.std.specs.declared.cmp.Ordering.TheVariants.{Less, Equal, Greater}
use Rattle.eb_term.specs.declared.problem.Problem.{Problem}
use Rattle.eb_term.specs.Nodes.{nodes_of}
use Rattle.occurrences.specs.declared.place.Place.{Place}
use Rattle.occurrences.specs.declared.place.Place.TheVariants as place
use Rattle.occurrences.specs.Stores.{same_place, same_values}
use Rattle.domain_store.specs.Places.{place_count, place_number, number_from}

-- the order tells values apart, and no value stands below itself
pub record Tells : Type 0 where
  pub exact : (v w : Value) → compare v w ≡ Equal → v ≡ w
  pub reflexive : (v : Value) → compare v v ≡ Equal

so_equal : (o : Ordering) → is_eq o ≡ true → o ≡ Equal
so_equal Equal h = refl
so_equal Less h = cc
so_equal Greater h = cc

same_is : Tells → (v w : Value) → same v w ≡ true → v ≡ w
same_is tells v w h = tells.exact v w (so_equal (compare v w) h)

pub values_are : Tells → (xs ys : List Value) → same_values xs ys ≡ true → xs ≡ ys
values_are tells [] [] h = refl
values_are tells [] (y ∷ ys) h = absurd (cc)
values_are tells (x ∷ xs) [] h = absurd (cc)
values_are tells (x ∷ xs) (y ∷ ys) h =
    ap₂ (λ v vs. v ∷ vs) (same_is tells x y (first_so (same x y) (same_values xs ys) h)) (values_are tells xs ys (second_so (same x y) (same_values xs ys) h))

pub values_itself : Tells → (xs : List Value) → same_values xs xs ≡ true
values_itself tells [] = refl
values_itself tells (x ∷ xs) = rw (tells.reflexive x, values_itself tells xs) refl

pub eq_is : (a b : ℕ) → nat_eq a b ≡ true → a ≡ b
eq_is a b h = grind (arith, nat_tests)

pub eq_itself : (a : ℕ) → nat_eq a a ≡ true
eq_itself a = grind (arith, nat_tests)

pub place_is : (a b : Place) → same_place a b ≡ true → a ≡ b
place_is (place.Choice k) (place.Choice j) h = ap place.Choice (eq_is k j h)
place_is (place.Definition k) (place.Definition j) h = ap place.Definition (eq_is k j h)
place_is (place.Node k) (place.Node j) h = ap place.Node (eq_is k j h)
place_is (place.Choice k) (place.Definition j) h = absurd (cc)
place_is (place.Choice k) (place.Node j) h = absurd (cc)
place_is (place.Definition k) (place.Choice j) h = absurd (cc)
place_is (place.Definition k) (place.Node j) h = absurd (cc)
place_is (place.Node k) (place.Choice j) h = absurd (cc)
place_is (place.Node k) (place.Definition j) h = absurd (cc)

pub place_itself : (a : Place) → same_place a a ≡ true
place_itself (place.Choice k) = eq_itself k
place_itself (place.Definition k) = eq_itself k
place_itself (place.Node k) = eq_itself k

-- ---- the numbers of places

from_is : (start count k n : ℕ) → number_from start count k ≡ Some n → (k < count) × (n ≡ start + k)
from_is start count k n h = by (nat_lt k count) refl h where
  by : (b : Bool) → nat_lt k count ≡ b → (if b then Some (start + k) else None) ≡ Some n → (k < count) × (n ≡ start + k)
  by true e h = (grind (arith, nat_tests), (let f : start + k ≡ n = cc in sym f))
  by false e h = absurd (cc)

-- two places with one number are one
pub number_tells : (p : Problem) (a b : Place) (n : ℕ) → place_number p a ≡ Some n → place_number p b ≡ Some n → a ≡ b
number_tells p (place.Choice k) (place.Choice j) n e f =
    let u = from_is 0 (length p.choices) k n e in let w = from_is 0 (length p.choices) j n f in ap place.Choice (omega (arith, u.1, w.1))
number_tells p (place.Choice k) (place.Definition j) n e f =
    let u = from_is 0 (length p.choices) k n e in let w = from_is (length p.choices) (length p.definitions) j n f in absurd (omega (arith, u.0, u.1, w.1))
number_tells p (place.Choice k) (place.Node j) n e f =
    let u = from_is 0 (length p.choices) k n e in let w = from_is (length p.choices + length p.definitions) (length (nodes_of p)) j n f in absurd (omega (arith, u.0, u.1, w.1))
number_tells p (place.Definition k) (place.Choice j) n e f =
    let u = from_is (length p.choices) (length p.definitions) k n e in let w = from_is 0 (length p.choices) j n f in absurd (omega (arith, u.1, w.0, w.1))
number_tells p (place.Definition k) (place.Definition j) n e f =
    let u = from_is (length p.choices) (length p.definitions) k n e in let w = from_is (length p.choices) (length p.definitions) j n f in ap place.Definition (omega (arith, u.1, w.1))
number_tells p (place.Definition k) (place.Node j) n e f =
    let u = from_is (length p.choices) (length p.definitions) k n e in let w = from_is (length p.choices + length p.definitions) (length (nodes_of p)) j n f in absurd (omega (arith, u.0, u.1, w.1))
number_tells p (place.Node k) (place.Choice j) n e f =
    let u = from_is (length p.choices + length p.definitions) (length (nodes_of p)) k n e in let w = from_is 0 (length p.choices) j n f in absurd (omega (arith, u.1, w.0, w.1))
number_tells p (place.Node k) (place.Definition j) n e f =
    let u = from_is (length p.choices + length p.definitions) (length (nodes_of p)) k n e in let w = from_is (length p.choices) (length p.definitions) j n f in absurd (omega (arith, u.1, w.0, w.1))
number_tells p (place.Node k) (place.Node j) n e f =
    let u = from_is (length p.choices + length p.definitions) (length (nodes_of p)) k n e in let w = from_is (length p.choices + length p.definitions) (length (nodes_of p)) j n f in ap place.Node (omega (arith, u.1, w.1))

pub number_within : (p : Problem) (a : Place) (n : ℕ) → place_number p a ≡ Some n → n < place_count p
number_within p (place.Choice k) n e = let u = from_is 0 (length p.choices) k n e in omega (arith, u.0, u.1)
number_within p (place.Definition k) n e = let u = from_is (length p.choices) (length p.definitions) k n e in omega (arith, u.0, u.1)
number_within p (place.Node k) n e = let u = from_is (length p.choices + length p.definitions) (length (nodes_of p)) k n e in omega (arith, u.0, u.1)
