-- Fresh trees have fewer splits and open boxes than their store has valuations.
use Rattle.std.proofs.Common.{◌≡◌, ◌≢◌, ◌∙◌, refl, sym, ap, ap₂, subst, ℕ, suc, ◌+◌, ◌*◌, ◌≤◌, ◌<◌, max, Bool, true, false, ◌&&◌, nat_eq, List, [], ◌∷◌, ◌++◌, length, Some, arith}
use Rattle.std.proofs.Math.Nat.{le_trans, le_refl}
use Rattle.eb_value.specs.declared.value.Value.{Value}
use Rattle.eb_term.specs.declared.problem.Choice.{Choice}
use Rattle.occ_domains.specs.declared.domain.Domain.{Domain}
use Rattle.occ_domains.specs.declared.tests.Test.{Test}
use Rattle.occ_domains.specs.Domains.{is_empty, meet}
use Rattle.occ_domains.specs.Tests.{parts}
use Rattle.occurrences.specs.declared.place.Place.{Place}
use Rattle.occurrences.specs.declared.place.Place.TheVariants as place
use Rattle.occurrences.specs.Occurrences.{Occurs, choice}
use Rattle.occurrences.specs.Occurrences as occurs
use Rattle.occurrences.specs.Stores.{Domains, same_values, with_domain}
use Rattle.occurrences.specs.Targets.{target_bound}
use Rattle.node_rules.specs.Narrowing.{given}
use Rattle.tree_lines.specs.declared.line.Line.{Line}
use Rattle.refutation_trees.specs.Fresh.{Task, fresh, IsStable, IsLoose, IsChoice}
use Rattle.refutation_trees.specs.Fresh as standing
use Rattle.refutation_trees.specs.Trees.{Leaves, narrow, split, clash, eval, left_open, Tree, leaf, Holds, at_leaf, at_one, at_two, lines_of, opens, splits_of}
use Rattle.domain_counts.specs.Counts.{count_in}
use Rattle.split_budget.specs.Volumes.{volume_from}
use Rattle.split_budget.proofs.Products.{product_from, product_less, product_filled, product_several, product_parted}
use Rattle.split_budget.proofs.ChoiceDomains.{Counts, IsOfChoice, normal_of, meet_is, parts_are, at_least_one, at_least_two}

-- the domain of a choice
abbrev pub of_choice : Domains → ℕ → Domain
of_choice at k = at (place.Choice k) []

abbrev pub values_of : Domains → ℕ → ℕ
values_of at k = count_in (of_choice at k)

volume_is : (at : Domains) (k : ℕ) (cs : List Choice) → volume_from at k cs ≡ product_from (values_of at) k cs
volume_is at k [] = refl
volume_is at k (c ∷ cs) = ap (λ n. values_of at k * n) (volume_is at (suc k) cs)

-- ---- the domains of choices after a change

no_row : (v : Value) (vs : List Value) → same_values (v ∷ vs) [] ≡ false
no_row v vs = refl

and_false : (b : Bool) → (b && false) ≡ false
and_false true = refl
and_false false = refl

-- the change is one of this choice, or leaves it
data IsChanged (at : Domains) (here : Place) (bound : List Value) (d : Domain) (k : ℕ) : Type 0 where
  at_it : here ≡ place.Choice k → bound ≡ [] → of_choice (with_domain at here bound d) k ≡ d → IsChanged at here bound d k
  elsewhere : of_choice (with_domain at here bound d) k ≡ of_choice at k → IsChanged at here bound d k

changed_by : (at : Domains) (here : Place) (bound : List Value) (d : Domain) (k : ℕ) → IsChanged at here bound d k
changed_by at (place.Choice j) [] d k = by (nat_eq j k) refl where
  by : (b : Bool) → nat_eq j k ≡ b → IsChanged at (place.Choice j) [] d k
  by true e = at_it (ap place.Choice (let q : j ≡ k = grind (arith, e) in q)) refl (rw e refl)
  by false e = elsewhere (rw e refl)
changed_by at (place.Choice j) (v ∷ vs) d k = elsewhere (rw (and_false (nat_eq j k)) refl)
changed_by at (place.Definition j) bound d k = elsewhere refl
changed_by at (place.Node j) bound d k = elsewhere refl

itself : (at : Domains) (j : ℕ) (d : Domain) → of_choice (with_domain at (place.Choice j) [] d) j ≡ d
itself at j d = rw (same j) refl where
  same : (n : ℕ) → nat_eq n n ≡ true
  same n = grind arith

another : (at : Domains) (j : ℕ) (d : Domain) (k : ℕ) → k ≢ j → of_choice (with_domain at (place.Choice j) [] d) k ≡ of_choice at k
another at j d k h = by (changed_by at (place.Choice j) [] d k) where
  by : IsChanged at (place.Choice j) [] d k → of_choice (with_domain at (place.Choice j) [] d) k ≡ of_choice at k
  by (at_it e b q) = absurd (h (sym (let r : j ≡ k = cc in r)))
  by (elsewhere q) = q

splits_append : (xs ys : List Line) → splits_of (xs ++ ys) ≡ splits_of xs + splits_of ys
splits_append [] ys = omega arith
splits_append (x ∷ xs) ys = let h = splits_append xs ys in omega (arith, h)

opens_append : (xs ys : List Line) → opens (xs ++ ys) ≡ opens xs + opens ys
opens_append [] ys = omega arith
opens_append (x ∷ xs) ys = let h = opens_append xs ys in omega (arith, h)

-- the choice that is split
record AChoice (task : Task) (here : Place) (bound : List Value) : Type 0 where
  pub number : ℕ
  pub is : here ≡ place.Choice number
  pub there : number < length task.problem.choices
  pub outside : bound ≡ []

a_choice : (task : Task) (here : Place) (bound : List Value) → IsChoice here → Occurs task.scope task.problem here bound → AChoice task here bound
a_choice task here bound (standing.choice k) (occurs.choice l) = record { number = k; is = refl; there = l; outside = refl }

module _ (counts : Counts) (task : Task) where
  abbrev AreChoices : Domains → Type 0
  AreChoices at = (k : ℕ) → k < length task.problem.choices → IsOfChoice (of_choice at k)

  abbrev volume : Domains → ℕ
  volume at = product_from (values_of at) 0 task.problem.choices

  -- ---- a rule

  met_choices : (at : Domains) (here : Place) (bound : List Value) (g : Domain) → AreChoices at → AreChoices (with_domain at here bound (meet (at here bound) g))
  met_choices at here bound g are k l = by (changed_by at here bound (meet (at here bound) g) k) where
    by : IsChanged at here bound (meet (at here bound) g) k → IsOfChoice (of_choice (with_domain at here bound (meet (at here bound) g)) k)
    by (at_it e b q) = subst IsOfChoice (sym q) (meet_is counts (at here bound) g (subst IsOfChoice (ap₂ at (sym e) (sym b)) (are k l)))
    by (elsewhere q) = subst IsOfChoice (sym q) (are k l)

  met_less : (at : Domains) (here : Place) (bound : List Value) (g : Domain) → AreChoices at → (k : ℕ) → k < length task.problem.choices
      → values_of (with_domain at here bound (meet (at here bound) g)) k ≤ values_of at k
  met_less at here bound g are k l = by (changed_by at here bound (meet (at here bound) g) k) where
    by : IsChanged at here bound (meet (at here bound) g) k → values_of (with_domain at here bound (meet (at here bound) g)) k ≤ values_of at k
    by (at_it e b q) =
        let same : at here bound ≡ of_choice at k = ap₂ at e b in
        subst (λ d. count_in d ≤ values_of at k) (sym q) (subst (λ d. count_in (meet d g) ≤ values_of at k) (sym same) (counts.meet (of_choice at k) g (normal_of (of_choice at k) (are k l))))
    by (elsewhere q) = subst (λ d. count_in d ≤ values_of at k) (sym q) (le_refl (values_of at k))

  -- ---- a split

  split_choices : (at : Domains) (j : ℕ) (d : Domain) → AreChoices at → IsOfChoice d → AreChoices (with_domain at (place.Choice j) [] d)
  split_choices at j d are w k l = by (changed_by at (place.Choice j) [] d k) where
    by : IsChanged at (place.Choice j) [] d k → IsOfChoice (of_choice (with_domain at (place.Choice j) [] d) k)
    by (at_it e b q) = subst IsOfChoice (sym q) w
    by (elsewhere q) = subst IsOfChoice (sym q) (are k l)

  filled : {at : Domains} → IsStable task at → (k : ℕ) → k < length task.problem.choices → is_empty (of_choice at k) ≡ false
  filled stable k l = stable.filled (place.Choice k) (choice l)

  one_value : {at : Domains} → AreChoices at → IsStable task at → (k : ℕ) → k < length task.problem.choices → 1 ≤ values_of at k
  one_value {at} are stable k l = at_least_one counts (of_choice at k) (are k l) (filled stable k l)

  split_filled : (at : Domains) (j : ℕ) (d : Domain) → AreChoices at → IsStable task at → IsOfChoice d → is_empty d ≡ false → 1 ≤ volume (with_domain at (place.Choice j) [] d)
  split_filled at j d are stable w e = product_filled (values_of (with_domain at (place.Choice j) [] d)) 0 task.problem.choices (λ k l. by k (let m : k < length task.problem.choices = omega (arith, l) in m) (changed_by at (place.Choice j) [] d k)) where
    by : (k : ℕ) → k < length task.problem.choices → IsChanged at (place.Choice j) [] d k → 1 ≤ values_of (with_domain at (place.Choice j) [] d) k
    by k l (at_it f b q) = subst (λ x. 1 ≤ count_in x) (sym q) (at_least_one counts d w e)
    by k l (elsewhere q) = subst (λ x. 1 ≤ count_in x) (sym q) (one_value are stable k l)

  split_less : (at : Domains) (j : ℕ) (a b : Domain) → j < length task.problem.choices → count_in a + count_in b ≤ values_of at j
      → volume (with_domain at (place.Choice j) [] a) + volume (with_domain at (place.Choice j) [] b) ≤ volume at
  split_less at j a b l sum =
      product_parted (values_of at) (values_of (with_domain at (place.Choice j) [] a)) (values_of (with_domain at (place.Choice j) [] b)) 0 task.problem.choices j (omega arith) (omega (arith, l))
      (λ k h. ap count_in (another at j a k h)) (λ k h. ap count_in (another at j b k h))
      (subst (λ n. n ≤ values_of at j) (ap₂ (λ m n. m + n) (ap count_in (sym (itself at j a))) (ap count_in (sym (itself at j b)))) sum)

  -- ---- trees

  abbrev IsWithin : Tree → Domains → Type 0
  IsWithin tree at = splits_of (lines_of tree) + opens (lines_of tree) + 1 ≤ max 1 (volume at)

  one_line : (n : ℕ) → 0 + 0 + 1 ≤ max 1 n
  one_line n = le_trans (le_refl 1) (omega arith)

  leaf_within : {at : Domains} {line : Line} → standing.IsFreshAt task at line → Leaves task at line [] → AreChoices at → IsWithin (leaf line) at
  leaf_within {at} may (clash occ o e) are = omega arith
  leaf_within {at} may (eval k values h u) are = omega arith
  leaf_within {at} may left_open are =
      let several = product_several (values_of at) 0 task.problem.choices may.0.choice (omega arith) (let l = may.0.there in omega (arith, l))
      (λ k l. one_value are may.1 k (omega (arith, l))) (at_least_two counts (of_choice at may.0.choice) (are may.0.choice may.0.there) (filled may.1 may.0.choice may.0.there) may.0.several) in
      omega (arith, several)

  split_within : (at : Domains) (here : Place) (bound : List Value) → AChoice task here bound → (t : Test) (both : Domain × Domain) → parts (at here bound) t ≡ Some both
      → IsStable task at → AreChoices at → (first second : Tree)
      → (AreChoices (with_domain at here bound both.0) → IsWithin first (with_domain at here bound both.0))
      → (AreChoices (with_domain at here bound both.1) → IsWithin second (with_domain at here bound both.1))
      → 1 + splits_of (lines_of first ++ lines_of second) + (0 + opens (lines_of first ++ lines_of second)) + 1 ≤ max 1 (volume at)
  split_within at here bound w t both e stable are first second f g =
      let j = w.number in
      let same : at here bound ≡ of_choice at j = ap₂ at w.is w.outside in
      let parted : parts (of_choice at j) t ≡ Some both = ap (λ d. parts d t) (sym same) ∙ e in
      let kept = parts_are counts (of_choice at j) t both (are j w.there) parted in
      let filled = counts.parts_filled (of_choice at j) t both parted in
      let sum = counts.parts (of_choice at j) t both (normal_of (of_choice at j) (are j w.there)) parted in
      let one = subst (λ x. IsWithin first x) (ap₂ (λ p r. with_domain at p r both.0) w.is w.outside) (f (subst AreChoices (ap₂ (λ p r. with_domain at p r both.0) (sym w.is) (sym w.outside)) (split_choices at j both.0 are kept.0))) in
      let other = subst (λ x. IsWithin second x) (ap₂ (λ p r. with_domain at p r both.1) w.is w.outside) (g (subst AreChoices (ap₂ (λ p r. with_domain at p r both.1) (sym w.is) (sym w.outside)) (split_choices at j both.1 are kept.1))) in
      let first_filled = split_filled at j both.0 are stable kept.0 filled.0 in
      let second_filled = split_filled at j both.1 are stable kept.1 filled.1 in
      let less = split_less at j both.0 both.1 w.there sum in
      let splits = splits_append (lines_of first) (lines_of second) in
      let left = opens_append (lines_of first) (lines_of second) in
      omega (arith, one, other, first_filled, second_filled, less, splits, left)

  pub within : {at : Domains} {tree : Tree} → Holds task fresh at tree → AreChoices at → IsWithin tree at
  within (at_leaf line may leaves) are = leaf_within may leaves are
  within {at} (at_one _ tree may (narrow rule occ to o t) holds) are =
      let bound = target_bound rule occ.bound in
      let g = given task.scope task.problem at rule occ.place occ.bound in
      let later = within holds (met_choices at to bound g are) in
      let less = product_less (values_of (with_domain at to bound (meet (at to bound) g))) (values_of at) 0 task.problem.choices (λ k l. met_less at to bound g are k (omega (arith, l))) in
      omega (arith, later, less)
  within {at} (at_two _ first second may (split occ t both o e) holds held) are =
      let w = a_choice task occ.place occ.bound may.0 o in
      split_within at occ.place occ.bound w t both e may.1 are first second (λ a. within holds a) (λ a. within held a)
