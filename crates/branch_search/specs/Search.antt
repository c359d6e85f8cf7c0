-- What a search answers.
use Rattle.std.specs.Prelude.{◌≡◌, ℕ, ◌+◌, ◌≤◌, ◌<◌, [], ◌∷◌}
use Rattle.eb_value.specs.declared.scope.Scope.{Scope}
use Rattle.eb_term.specs.declared.problem.Problem.{Problem}
use Rattle.eb_meaning.specs.Problems.{IsSolution}
use Rattle.occ_store.specs.Stores.{Store, IsFirst, valuation_count}
use Rattle.tree_checker.specs.Trees.{Tree, facts_of, Holds, OpensAreLoose, lines_of, opens, splits_of}
use Rattle.branch_search.specs.declared.depth_first.Answer.{Answer}
use Rattle.branch_search.specs.declared.depth_first.Answer.TheVariants as answer

-- The tree holds from the first store, leaves no box open, and has at most budget splits.
pub record IsRefutation (scope : Scope) (problem : Problem) (budget : ℕ) (tree : Tree) : Type 0 where
  pub first : Store
  pub is_first : IsFirst scope problem.choices first
  pub holds : Holds (facts_of scope problem) first tree
  pub closed : opens (lines_of tree) ≡ 0
  pub within : splits_of (lines_of tree) ≤ budget

-- The tree holds from the first store and leaves a box open, each in a store in which some choice
-- isn't single. It has exactly budget splits, and the budget is below the number of valuations less
-- one.
pub record IsUndecided (scope : Scope) (problem : Problem) (budget : ℕ) (tree : Tree) : Type 0 where
  pub first : Store
  pub is_first : IsFirst scope problem.choices first
  pub holds : Holds (facts_of scope problem) first tree
  pub left_open : 0 < opens (lines_of tree)
  pub loose : OpensAreLoose (first ∷ []) (lines_of tree)
  pub spent : splits_of (lines_of tree) ≡ budget
  pub fewer : budget + 1 < valuation_count scope problem.choices

-- a solution, or the lines of such a tree
abbrev pub Answers : Scope → Problem → ℕ → Answer → Type 0
Answers scope problem budget (answer.Found values) = IsSolution scope problem values
Answers scope problem budget (answer.Refuted lines) = (tree : Tree) × IsRefutation scope problem budget tree × (lines ≡ lines_of tree)
Answers scope problem budget (answer.Undecided lines) = (tree : Tree) × IsUndecided scope problem budget tree × (lines ≡ lines_of tree)
