-- The first body of a type without sets has as many values as the type, and is without sets.
use Rattle.std.proofs.Common.{◌≡◌, ◌∙◌, ℕ, zero, suc, ◌*◌, ℤ, pos, ◌+ℤ◌, true, false, ◌&&◌, List, [], ◌∷◌, length, refl, sym, ap, arith, rules, length-append}
use Rattle.std.proofs.lemmas.List.{length-map}
use Rattle.std.specs.Cmp.{first_so, second_so}
use Rattle.eb_value.specs.declared.scope.Scope.{Scope}
use Rattle.eb_value.specs.declared.types.EbType.{EbType, the_lemmas}
use Rattle.eb_value.specs.declared.value.Value.{Value}
use Rattle.eb_value.specs.Types.{integer, boolean, carrier, product, power}
use Rattle.eb_value.specs.Counts.{integers_within}
use Rattle.eb_value.specs.Scopes.{vals, ints_from, pairs}
use Rattle.int_dom.specs.declared.interval.Interval.{Interval}
use Rattle.occ_domains.specs.Bodies as bodies
use Rattle.occ_domains.specs.Wholes.{spanned, first, is_without_sets}
use Rattle.domain_counts.specs.Counts.{count, is_setless}
use Rattle.domain_counts.proofs.BuiltCounts.{integers_count, members_count, pairs_count, integers_setless, members_setless, pairs_setless}
use Rattle.domain_counts.proofs.TypeInduction.{ind_type}

-- ---- at the constructors

vals-integer : (scope : Scope) → vals scope integer ≡ ints_from scope.lo (integers_within scope.lo scope.hi)
vals-integer scope = search (rules, the_lemmas)

vals-product : (scope : Scope) (s t : EbType) → vals scope (product s t) ≡ pairs (vals scope s) (vals scope t)
vals-product scope s t = search (rules, the_lemmas)

spanned-integer : (d : Interval) (scope : Scope) → spanned d scope integer ≡ bodies.integers d
spanned-integer d scope = search (rules, the_lemmas)

spanned-boolean : (d : Interval) (scope : Scope) → spanned d scope boolean ≡ bodies.members (vals scope boolean)
spanned-boolean d scope = search (rules, the_lemmas)

spanned-carrier : (d : Interval) (scope : Scope) (place : ℕ) → spanned d scope (carrier place) ≡ bodies.members (vals scope (carrier place))
spanned-carrier d scope place = search (rules, the_lemmas)

spanned-product : (d : Interval) (scope : Scope) (s t : EbType) → spanned d scope (product s t) ≡ bodies.pairs (spanned d scope s) (spanned d scope t)
spanned-product d scope s t = search (rules, the_lemmas)

unset-product : (s t : EbType) → is_without_sets (product s t) ≡ (is_without_sets s && is_without_sets t)
unset-product s t = search (rules, the_lemmas)

unset-power : (t : EbType) → is_without_sets (power t) ≡ false
unset-power t = search (rules, the_lemmas)

-- ---- lengths

length-ints_from : (lo : ℤ) (n : ℕ) → length (ints_from lo n) ≡ n
length-ints_from lo zero = refl
length-ints_from lo (suc n) = ap suc (length-ints_from (lo +ℤ pos 1) n)

length-pairs : (xs ys : List Value) → length (pairs xs ys) ≡ length xs * length ys
length-pairs [] ys = omega arith
length-pairs (x ∷ xs) ys = simp (length-append, length-map, length-pairs xs ys) (grind arith)

-- ---- the first body

-- the integers of the scope
abbrev bounds : Scope → Interval
bounds scope = record { lo = scope.lo; hi = scope.hi }

abbrev Counted : Scope → EbType → Type 0
Counted scope t = is_without_sets t ≡ true → (is_setless (spanned (bounds scope) scope t) ≡ true) × (count (spanned (bounds scope) scope t) ≡ length (vals scope t))

module _ (scope : Scope) where
  integer_counted : Counted scope integer
  integer_counted u =
      rw (spanned-integer (bounds scope) scope)
      (integers_setless (bounds scope), integers_count (bounds scope) ∙ sym (ap length (vals-integer scope) ∙ length-ints_from scope.lo (integers_within scope.lo scope.hi)))

  listed_counted : (t : EbType) → spanned (bounds scope) scope t ≡ bodies.members (vals scope t) → Counted scope t
  listed_counted t e u = rw e (members_setless (vals scope t), members_count (vals scope t))

  product_counted : (s t : EbType) → Counted scope s → Counted scope t → Counted scope (product s t)
  product_counted s t p q u =
      let both : (is_without_sets s && is_without_sets t) ≡ true = sym (unset-product s t) ∙ u in
      let first_part = p (first_so (is_without_sets s) (is_without_sets t) both) in
      let second_part = q (second_so (is_without_sets s) (is_without_sets t) both) in
      let a = spanned (bounds scope) scope s in
      let b = spanned (bounds scope) scope t in
      rw (spanned-product (bounds scope) scope s t) (
        pairs_setless a b first_part.0 second_part.0,
        pairs_count a b ∙ rw (first_part.1, second_part.1) (sym (ap length (vals-product scope s t) ∙ length-pairs (vals scope s) (vals scope t))),
      )

pub first_counted : (scope : Scope) (t : EbType) → is_without_sets t ≡ true → (is_setless (first scope t) ≡ true) × (count (first scope t) ≡ length (vals scope t))
first_counted scope = ind_type (Counted scope) (record {
  integer = integer_counted scope;
  boolean = listed_counted scope boolean (spanned-boolean (bounds scope) scope);
  carrier = λ place. listed_counted scope (carrier place) (spanned-carrier (bounds scope) scope place);
  product = product_counted scope;
  power = λ t p u. let e : false ≡ true = sym (unset-power t) ∙ u in cc;
})
