-- The store with one domain replaced has it there alone.
use Rattle.std.proofs.Common.{◌≡◌, refl, ap, ap₂, ℕ, Bool, true, false, ◌&&◌, cond, List, [], ◌∷◌, arith}
use Rattle.std.specs.Prelude.{nat_eq}
use Rattle.std.specs.Cmp.{first_so, second_so}
use Rattle.std.specs.Ordering.{is_eq}
use Rattle.std.specs.declared.cmp.Ordering.{Ordering}
use Rattle.std.specs.declared.cmp.Ordering.TheVariants.{Less, Equal, Greater}
use Rattle.std.proofs.lemmas.Bool.Decides.{nat_tests}
use Rattle.eb_value.specs.declared.value.Value.{Value}
use Rattle.eb_value.specs.Values.{compare}
use Rattle.eb_value.specs.Comprehensions.{same}
use Rattle.occ_domains.specs.declared.domain.Domain.{Domain}
use Rattle.occurrences.specs.declared.place.Place.{Place}
use Rattle.occurrences.specs.declared.place.Place.TheVariants as place
use Rattle.occurrences.specs.Stores.{Domains, same_place, same_values, with_domain}

same_number : (k j : ℕ) → nat_eq k j ≡ true → k ≡ j
same_number k j e = grind (arith, nat_tests)

place_is : (a b : Place) → same_place a b ≡ true → a ≡ b
place_is (place.Choice k) (place.Choice j) e = ap place.Choice (same_number k j e)
place_is (place.Definition k) (place.Definition j) e = ap place.Definition (same_number k j e)
place_is (place.Node k) (place.Node j) e = ap place.Node (same_number k j e)
place_is _ _ e = absurd (cc)

is_equal : (o : Ordering) → is_eq o ≡ true → o ≡ Equal
is_equal Less e = absurd (cc)
is_equal Equal e = refl
is_equal Greater e = absurd (cc)

module _ (exact : (v w : Value) → compare v w ≡ Equal → v ≡ w) where
  values_are : (vs ws : List Value) → same_values vs ws ≡ true → vs ≡ ws
  values_are [] [] e = refl
  values_are [] (w ∷ ws) e = absurd (cc)
  values_are (v ∷ vs) [] e = absurd (cc)
  values_are (v ∷ vs) (w ∷ ws) e =
      ap₂ (λ x xs. x ∷ xs) (exact v w (is_equal (compare v w) (first_so (same v w) (same_values vs ws) e))) (values_are vs ws (second_so (same v w) (same_values vs ws) e))

  -- What holds of the new domain at its occurrence, and of the old one elsewhere, holds of the store.
  pub replaced : (P : Place → List Value → Domain → Type 0) (at : Domains) (to other : Place) (bound values : List Value) (d : Domain)
      → (to ≡ other → bound ≡ values → P other values d) → P other values (at other values) → P other values (with_domain at to bound d other values)
  replaced P at to other bound values d here there = by (same_place to other && same_values bound values) refl where
    by : (b : Bool) → (same_place to other && same_values bound values) ≡ b → P other values (cond b d (at other values))
    by true e = here (place_is to other (first_so (same_place to other) (same_values bound values) e)) (values_are bound values (second_so (same_place to other) (same_values bound values) e))
    by false e = there
