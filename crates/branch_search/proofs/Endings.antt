-- What a search ends with answers the problem.
use Rattle.std.proofs.Common.{◌≡◌, ◌∙◌, sym, ap, refl, subst, ℕ, zero, suc, ◌+◌, ◌*◌, ◌<◌, ◌≤◌, List, [], ◌∷◌, length, arith, ℤ, pos, negsuc, ◌+ℤ◌, ◌≤ℤ◌, ◌<ℤ◌}
use Rattle.std.specs.Int.{int_gap}
use Rattle.std.proofs.lemmas.Int.{ints}
use Rattle.eb_value.specs.declared.scope.Scope.{Scope}
use Rattle.eb_value.specs.declared.value.Value.{Value}
use Rattle.eb_value.specs.Values.{int}
use Rattle.eb_term.specs.declared.problem.Choice.{Choice}
use Rattle.eb_term.specs.declared.problem.Problem.{Problem}
use Rattle.eb_meaning.specs.Problems.{IsValuation, AreDefinitionsNamed}
use Rattle.int_dom.specs.Intervals.{size}
use Rattle.occ_store.specs.Stores.{Store, IsFirst, single_values, volume, valuation_count}
use Rattle.tree_form.specs.declared.line.Line.{Line}
use Rattle.tree_checker.specs.Trees.{Tree, facts_of, Holds, lines_of, opens, splits_of, OpensAreLoose}
use Rattle.tree_checker.specs.Verdicts.{LeadsTo}
use Rattle.branch_search.specs.declared.depth_first.Answer.{Answer}
use Rattle.branch_search.specs.declared.depth_first.Answer.TheVariants as answer
use Rattle.branch_search.specs.Search.{Answers}
use Rattle.branch_search.specs.steps.Going.{IsWithin, Ends}
use Rattle.branch_search.proofs.Defined.{all_defined}

some_factors : (a b : ℕ) → 0 < a * b → (0 < a) × (0 < b)
some_factors zero b h = absurd (omega arith)
some_factors (suc a) zero h = absurd (omega arith)
some_factors (suc a) (suc b) h = (omega arith, omega arith)

gap_below : (a b : ℤ) → 0 < int_gap a b → a <ℤ b
gap_below (pos a) (pos b) h = omega (arith, ints)
gap_below (pos a) (negsuc b) h = omega (arith, ints)
gap_below (negsuc a) (pos b) h = omega (arith, ints)
gap_below (negsuc a) (negsuc b) h = omega (arith, ints)

gap_some : (a b : ℤ) → 0 < int_gap a (b +ℤ pos 1) → a ≤ℤ b
gap_some a b h = let below = gap_below a (b +ℤ pos 1) h in omega (arith, ints, below)

pub filled : (store : Store) → 0 < volume store → IsWithin store store
filled [] some = tt
filled (d ∷ store) some =
    let parts = some_factors (size d) (volume store) some in
    (omega (arith, ints), gap_some d.lo d.hi parts.0, omega (arith, ints), filled store parts.1)

pub first_length : (scope : Scope) (choices : List Choice) (store : Store) → IsFirst scope choices store → length store ≡ length choices
first_length scope [] [] is = refl
first_length scope [] (d ∷ store) is = absurd is
first_length scope (c ∷ choices) [] is = absurd is
first_length scope (c ∷ choices) (d ∷ store) is = ap suc (first_length scope choices store is.1)

pub valuation : (scope : Scope) (choices : List Choice) (first store : Store) → IsFirst scope choices first → IsWithin first store → IsValuation scope choices (single_values store)
valuation scope [] [] [] is within = tt
valuation scope [] [] (e ∷ store) is within = absurd within
valuation scope [] (d ∷ first) store is within = absurd is
valuation scope (c ∷ choices) [] store is within = absurd is
valuation scope (c ∷ choices) (d ∷ first) [] is within = absurd within
valuation scope (c ∷ choices) (d ∷ first) (e ∷ store) is (low, some, high, within) =
    ((is.0 (int e.lo)).0 (record { number = e.lo; is_number = refl; above = low; below = omega (arith, ints, some, high) }), valuation scope choices first store is.1 within)

valuation_length : (scope : Scope) (choices : List Choice) (values : List Value) → IsValuation scope choices values → length values ≡ length choices
valuation_length scope [] [] is = refl
valuation_length scope [] (v ∷ values) is = absurd is
valuation_length scope (c ∷ choices) [] is = absurd is
valuation_length scope (c ∷ choices) (v ∷ values) is = ap suc (valuation_length scope choices values is.1)

abbrev TreeOf : Scope → Problem → Store → List Line → Type 0
TreeOf scope problem first lines = (tree : Tree) × Holds (facts_of scope problem) first tree × (lines_of tree ≡ lines)

pub answered : (scope : Scope) (problem : Problem) (first : Store) (budget : ℕ) (result : Answer) → IsFirst scope problem.choices first → AreDefinitionsNamed problem
    → ((lines : List Line) → LeadsTo (facts_of scope problem) (first ∷ []) lines [] → TreeOf scope problem first lines)
    → ((tree : Tree) → Holds (facts_of scope problem) first tree → OpensAreLoose (first ∷ []) (lines_of tree) → splits_of (lines_of tree) + opens (lines_of tree) + 1 ≤ valuation_count scope problem.choices)
    → Ends (facts_of scope problem) first budget result → Answers scope problem budget result
answered scope problem first budget (answer.Found values) is named trees fewer (store, within, solved) =
    let valued : IsValuation scope problem.choices values = subst (IsValuation scope problem.choices) (sym solved.are_values) (valuation scope problem.choices first store is within) in
    record {
      valuation = valued;
      defined = all_defined scope problem values (valuation_length scope problem.choices values valued) named solved.all;
      facts = solved.all;
    }
answered scope problem first budget (answer.Refuted lines) is named trees fewer (leads, closed, within) =
    let t = trees lines leads in
    let tree = t.0 in
    let same : lines_of tree ≡ lines = t.2 in
    (tree, record { first = first; is_first = is; holds = t.1; closed = ap opens same ∙ closed; within = subst (λ z. splits_of z ≤ budget) (sym same) within }, sym same)
answered scope problem first budget (answer.Undecided lines) is named trees fewer (leads, loose, left_open, spent) =
    let t = trees lines leads in
    let tree = t.0 in
    let same : lines_of tree ≡ lines = t.2 in
    let here : OpensAreLoose (first ∷ []) (lines_of tree) = subst (OpensAreLoose (first ∷ [])) (sym same) loose in
    let some : 0 < opens (lines_of tree) = subst (λ z. 0 < opens z) (sym same) left_open in
    let all : splits_of (lines_of tree) ≡ budget = ap splits_of same ∙ spent in
    let few = fewer tree t.1 here in
    (tree, record { first = first; is_first = is; holds = t.1; left_open = some; loose = here; spent = all; fewer = omega (arith, few, some, all) }, sym same)
