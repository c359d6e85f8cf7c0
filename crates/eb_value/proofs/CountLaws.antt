-- The values of a type: equations at the constructors, and how many there are.
use Rattle.std.proofs.Common.{◌≡◌, ◌∙◌, ℕ, zero, suc, ◌+◌, ◌*◌, ◌^◌, ◌-◌, ◌<◌, ◌≤◌, ◌⊎◌, inl, inr, min, ℤ, pos, ◌+ℤ◌, true, false, List, [], ◌∷◌, length, refl, sym, ap, arith, rules, length-append}
use Rattle.std.proofs.lemmas.List.{length-map}
use Rattle.std.proofs.lemmas.Bool.{cases_lt}
use Rattle.std.proofs.Math.Nat.{pow-suc}
use Rattle.std.proofs.Math.Pow.{pow_mono}
use Rattle.eb_value.specs.declared.scope.Scope.{Scope}
use Rattle.eb_value.specs.declared.types.EbType.{EbType, the_lemmas}
use Rattle.eb_value.specs.declared.value.Value.{Value}
use Rattle.eb_value.specs.Types.{integer, boolean, carrier, product, power}
use Rattle.eb_value.specs.Values.{set, truth}
use Rattle.eb_value.specs.Typing.{size_of}
use Rattle.eb_value.specs.Scopes.{vals, ints_from, atoms_from, pairs, sets, some_of}
use Rattle.eb_value.specs.Counts.{cardinal, integers_within}
use Rattle.eb_value.proofs.TypeInduction.{ind_type}

pub vals-integer : (scope : Scope) → vals scope integer ≡ ints_from scope.lo (integers_within scope.lo scope.hi)
vals-integer scope = search (rules, the_lemmas)

pub vals-boolean : (scope : Scope) → vals scope boolean ≡ truth false ∷ truth true ∷ []
vals-boolean scope = search (rules, the_lemmas)

pub vals-carrier : (scope : Scope) (place : ℕ) → vals scope (carrier place) ≡ atoms_from place 1 (size_of scope.sizes place)
vals-carrier scope place = search (rules, the_lemmas)

pub vals-product : (scope : Scope) (s t : EbType) → vals scope (product s t) ≡ pairs (vals scope s) (vals scope t)
vals-product scope s t = search (rules, the_lemmas)

pub vals-power : (scope : Scope) (t : EbType) → vals scope (power t) ≡ sets (vals scope t)
vals-power scope t = search (rules, the_lemmas)

cardinal-integer : (scope : Scope) → cardinal scope integer ≡ integers_within scope.lo scope.hi
cardinal-integer scope = search (rules, the_lemmas)

cardinal-boolean : (scope : Scope) → cardinal scope boolean ≡ 2
cardinal-boolean scope = search (rules, the_lemmas)

cardinal-carrier : (scope : Scope) (place : ℕ) → cardinal scope (carrier place) ≡ size_of scope.sizes place
cardinal-carrier scope place = search (rules, the_lemmas)

cardinal-product : (scope : Scope) (s t : EbType) → cardinal scope (product s t) ≡ cardinal scope s * cardinal scope t
cardinal-product scope s t = search (rules, the_lemmas)

cardinal-power : (scope : Scope) (t : EbType) → cardinal scope (power t) ≡ 2 ^ cardinal scope t
cardinal-power scope t = search (rules, the_lemmas)

length-ints_from : (lo : ℤ) (n : ℕ) → length (ints_from lo n) ≡ n
length-ints_from lo zero = refl
length-ints_from lo (suc n) = ap suc (length-ints_from (lo +ℤ pos 1) n)

length-atoms_from : (place k n : ℕ) → length (atoms_from place k n) ≡ n
length-atoms_from place k zero = refl
length-atoms_from place k (suc n) = ap suc (length-atoms_from place (k + 1) n)

length-pairs : (xs ys : List Value) → length (pairs xs ys) ≡ length xs * length ys
length-pairs [] ys = omega arith
length-pairs (x ∷ xs) ys = simp (length-append, length-map, length-pairs xs ys) (grind arith)

length-some_of : (xs : List Value) → length (some_of xs) + 1 ≡ 2 ^ length xs
length-some_of [] = refl
length-some_of (x ∷ xs) =
    let h : length (some_of xs) + 1 ≡ 2 ^ length xs = length-some_of xs in
    let e : length (some_of (x ∷ xs)) ≡ suc (length (some_of xs)) + length (some_of xs) = simp (length-append, length-map) in
    omega (arith, e, pow-suc 2 (length xs))

length-sets : (xs : List Value) → length (sets xs) ≡ 2 ^ length xs
length-sets xs = length-map ([] ∷ some_of xs) set ∙ omega (arith, length-some_of xs)

pub length-vals : (scope : Scope) (t : EbType) → length (vals scope t) ≡ cardinal scope t
length-vals scope = ind_type (λ t. length (vals scope t) ≡ cardinal scope t) (record {
  integer = rw (vals-integer scope, cardinal-integer scope) (length-ints_from scope.lo (integers_within scope.lo scope.hi));
  boolean = rw (vals-boolean scope, cardinal-boolean scope) refl;
  carrier = λ place. rw (vals-carrier scope place, cardinal-carrier scope place) (length-atoms_from place 1 (size_of scope.sizes place));
  product = λ s t p q. rw (vals-product scope s t, cardinal-product scope s t, length-pairs (vals scope s) (vals scope t), p, q) refl;
  power = λ t p. rw (vals-power scope t, cardinal-power scope t, length-sets (vals scope t), p) refl;
})

-- 2 to a number that is as large as can be counted
pub pow_saturates : (n : ℕ) → 64 ≤ n → 2 ^ 64 - 1 ≡ min (2 ^ n) (2 ^ 64 - 1)
pow_saturates n h = let big : 2 ^ 64 ≤ 2 ^ n = pow_mono h in omega arith

min-pow-min_by : (n : ℕ) → (n < 64) ⊎ (64 ≤ n) → min (2 ^ min n (2 ^ 64 - 1)) (2 ^ 64 - 1) ≡ min (2 ^ n) (2 ^ 64 - 1)
min-pow-min_by n (inl h) = let e : min n (2 ^ 64 - 1) ≡ n = omega arith in ap (λ k. min (2 ^ k) (2 ^ 64 - 1)) e
min-pow-min_by n (inr h) = sym (pow_saturates (min n (2 ^ 64 - 1)) (omega arith)) ∙ pow_saturates n h

-- a number of members that stands for more gives no other number of sets
pub min-pow-min : (n : ℕ) → min (2 ^ min n (2 ^ 64 - 1)) (2 ^ 64 - 1) ≡ min (2 ^ n) (2 ^ 64 - 1)
min-pow-min n = min-pow-min_by n (cases_lt n 64)
