-- How many values a type has.
use Rattle.std.proofs.Common.{◌≡◌, ◌∙◌, ℕ, zero, suc, ◌+◌, ◌*◌, ◌^◌, ℤ, pos, ◌+ℤ◌, true, false, List, [], ◌∷◌, length, refl, ap, arith, rules, length-append}
use Rattle.std.proofs.lemmas.List.{length-map}
use Rattle.std.proofs.Math.Nat.{pow-suc}
use Rattle.eb_value.specs.declared.scope.Scope.{Scope}
use Rattle.eb_value.specs.declared.types.EbType.{EbType, the_lemmas}
use Rattle.eb_value.specs.declared.value.Value.{Value}
use Rattle.eb_value.specs.Types.{integer, boolean, carrier, product, power}
use Rattle.eb_value.specs.Values.{set, truth}
use Rattle.eb_value.specs.Typing.{size_of}
use Rattle.eb_value.specs.Scopes.{vals, ints_from, atoms_from, pairs, sets, some_of}
use Rattle.eb_value.specs.Counts.{cardinal, integers_within}
use Rattle.cbc_query.proofs.TypeInduction.{ind_type}

vals-integer : (scope : Scope) → vals scope integer ≡ ints_from scope.lo (integers_within scope.lo scope.hi)
vals-integer scope = search (rules, the_lemmas)

vals-boolean : (scope : Scope) → vals scope boolean ≡ truth false ∷ truth true ∷ []
vals-boolean scope = search (rules, the_lemmas)

vals-carrier : (scope : Scope) (place : ℕ) → vals scope (carrier place) ≡ atoms_from place 1 (size_of scope.sizes place)
vals-carrier scope place = search (rules, the_lemmas)

vals-product : (scope : Scope) (s t : EbType) → vals scope (product s t) ≡ pairs (vals scope s) (vals scope t)
vals-product scope s t = search (rules, the_lemmas)

vals-power : (scope : Scope) (t : EbType) → vals scope (power t) ≡ sets (vals scope t)
vals-power scope t = search (rules, the_lemmas)

cardinal-integer : (scope : Scope) → cardinal scope integer ≡ integers_within scope.lo scope.hi
cardinal-integer scope = search (rules, the_lemmas)

cardinal-boolean : (scope : Scope) → cardinal scope boolean ≡ 2
cardinal-boolean scope = search (rules, the_lemmas)

cardinal-carrier : (scope : Scope) (place : ℕ) → cardinal scope (carrier place) ≡ size_of scope.sizes place
cardinal-carrier scope place = search (rules, the_lemmas)

cardinal-product : (scope : Scope) (s t : EbType) → cardinal scope (product s t) ≡ cardinal scope s * cardinal scope t
cardinal-product scope s t = search (rules, the_lemmas)

cardinal-power : (scope : Scope) (t : EbType) → cardinal scope (power t) ≡ 2 ^ cardinal scope t
cardinal-power scope t = search (rules, the_lemmas)

length-ints_from : (lo : ℤ) (n : ℕ) → length (ints_from lo n) ≡ n
length-ints_from lo zero = refl
length-ints_from lo (suc n) = ap suc (length-ints_from (lo +ℤ pos 1) n)

length-atoms_from : (place k n : ℕ) → length (atoms_from place k n) ≡ n
length-atoms_from place k zero = refl
length-atoms_from place k (suc n) = ap suc (length-atoms_from place (k + 1) n)

length-pairs : (xs ys : List Value) → length (pairs xs ys) ≡ length xs * length ys
length-pairs [] ys = omega arith
length-pairs (x ∷ xs) ys = simp (length-append, length-map, length-pairs xs ys) (grind arith)

length-some_of : (xs : List Value) → length (some_of xs) + 1 ≡ 2 ^ length xs
length-some_of [] = refl
length-some_of (x ∷ xs) =
    let h : length (some_of xs) + 1 ≡ 2 ^ length xs = length-some_of xs in
    let e : length (some_of (x ∷ xs)) ≡ suc (length (some_of xs)) + length (some_of xs) = simp (length-append, length-map) in
    omega (arith, e, pow-suc 2 (length xs))

length-sets : (xs : List Value) → length (sets xs) ≡ 2 ^ length xs
length-sets xs = length-map ([] ∷ some_of xs) set ∙ omega (arith, length-some_of xs)

pub length-vals : (scope : Scope) (t : EbType) → length (vals scope t) ≡ cardinal scope t
length-vals scope = ind_type (λ t. length (vals scope t) ≡ cardinal scope t) (record {
  integer = rw (vals-integer scope, cardinal-integer scope) (length-ints_from scope.lo (integers_within scope.lo scope.hi));
  boolean = rw (vals-boolean scope, cardinal-boolean scope) refl;
  carrier = λ place. rw (vals-carrier scope place, cardinal-carrier scope place) (length-atoms_from place 1 (size_of scope.sizes place));
  product = λ s t p q. rw (vals-product scope s t, cardinal-product scope s t, length-pairs (vals scope s) (vals scope t), p, q) refl;
  power = λ t p. rw (vals-power scope t, cardinal-power scope t, length-sets (vals scope t), p) refl;
})
