-- The first store has as many valuations as there are.
use Rattle.std.proofs.Common.{◌≡◌, ◌∙◌, refl, sym, ap, ap₂, subst, ℕ, zero, suc, ◌+◌, ◌*◌, ◌<◌, ◌≤◌, max, Bool, true, false, ◌&&◌, List, [], ◌∷◌, length, Some, slice_get, arith}
use Rattle.std.specs.List.{list_all}
use Rattle.eb_value.specs.declared.scope.Scope.{Scope}
use Rattle.eb_value.specs.Scopes.{vals}
use Rattle.eb_term.specs.declared.problem.Choice.{Choice}
use Rattle.eb_term.specs.declared.problem.Problem.{Problem}
use Rattle.occ_domains.specs.Wholes.{is_without_sets}
use Rattle.occurrences.specs.Stores.{first_domains, choice_domain}
use Rattle.refutation_trees.specs.Fresh.{fresh}
use Rattle.refutation_trees.specs.Trees.{Tree, Holds, lines_of, opens, splits_of}
use Rattle.domain_counts.specs.Counts.{count_in}
use Rattle.split_budget.specs.Volumes.{valuation_count, HaveNoSets}
use Rattle.split_budget.proofs.Products.{product_from}
use Rattle.split_budget.proofs.ChoiceDomains.{Counts, IsOfChoice, first_is}
use Rattle.split_budget.proofs.Budget.{of_choice, values_of, within}

both_true : (a b : Bool) → (a && b) ≡ true → (a ≡ true) × (b ≡ true)
both_true true b h = (refl, h)
both_true false b h = let k : false ≡ true = h in cc

without_sets : (cs : List Choice) → HaveNoSets cs → (k : ℕ) (c : Choice) → slice_get cs k ≡ Some c → is_without_sets c.ty ≡ true
without_sets [] h k c e = absurd (cc)
without_sets (x ∷ xs) h zero c e = subst (λ y. is_without_sets y.ty ≡ true) (let q : x ≡ c = cc in q) (both_true (is_without_sets x.ty) (list_all (λ y. is_without_sets y.ty) xs) h).0
without_sets (x ∷ xs) h (suc k) c e = without_sets xs (both_true (is_without_sets x.ty) (list_all (λ y. is_without_sets y.ty) xs) h).1 k c e

module _ (counts : Counts) (scope : Scope) (p : Problem) (none : HaveNoSets p.choices) where
  first_choice : (k : ℕ) (c : Choice) → slice_get p.choices k ≡ Some c → IsOfChoice (of_choice (first_domains scope p) k)
  first_choice k c e = subst IsOfChoice (ap (choice_domain scope) (sym e)) (first_is counts scope c.ty (without_sets p.choices none k c e))

  some_choice : (cs : List Choice) (k : ℕ) → k < length cs → (c : Choice) × (slice_get cs k ≡ Some c)
  some_choice [] k l = absurd (let r : ⊥ = omega (arith, l) in r)
  some_choice (c ∷ cs) zero l = (c, refl)
  some_choice (c ∷ cs) (suc k) l = some_choice cs k (omega (arith, l))

  pub first_choices : (k : ℕ) → k < length p.choices → IsOfChoice (of_choice (first_domains scope p) k)
  first_choices k l = let w = some_choice p.choices k l in first_choice k w.0 w.1

  first_values : (k : ℕ) (c : Choice) → slice_get p.choices k ≡ Some c → values_of (first_domains scope p) k ≡ length (vals scope c.ty)
  first_values k c e = ap (λ o. count_in (choice_domain scope o)) e ∙ (counts.first scope c.ty (without_sets p.choices none k c e)).1

  first_volume : (k : ℕ) (cs : List Choice) → ((i : ℕ) (c : Choice) → slice_get cs i ≡ Some c → slice_get p.choices (k + i) ≡ Some c)
      → product_from (values_of (first_domains scope p)) k cs ≡ valuation_count scope cs
  first_volume k [] h = refl
  first_volume k (c ∷ cs) h =
      ap₂ (λ m n. m * n) (first_values k c (ap (slice_get p.choices) (let q : k ≡ k + 0 = omega arith in q) ∙ h 0 c refl))
      (first_volume (suc k) cs (λ i x e. ap (slice_get p.choices) (let q : suc k + i ≡ k + suc i = omega arith in q) ∙ h (suc i) x e))

  pub splits_within : {tree : Tree} → Holds (record { scope = scope; problem = p }) fresh (first_domains scope p) tree
      → splits_of (lines_of tree) + opens (lines_of tree) + 1 ≤ max 1 (valuation_count scope p.choices)
  splits_within {tree} holds =
      subst (λ n. splits_of (lines_of tree) + opens (lines_of tree) + 1 ≤ max 1 n) (first_volume 0 p.choices (λ i c e. ap (slice_get p.choices) (let q : 0 + i ≡ i = omega arith in q) ∙ e))
      (within counts (record { scope = scope; problem = p }) holds first_choices)
