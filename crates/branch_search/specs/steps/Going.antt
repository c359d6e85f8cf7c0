-- What holds of a search as it goes on. No public clause names this.
use Rattle.std.specs.Prelude.{◌≡◌, ⊤, ℕ, ◌+◌, ◌<◌, ◌≤◌, Bool, true, false, MatchBool, List, [], ◌∷◌, ◌≤ℤ◌}
use Rattle.std.specs.List.{All, AllByRecursion, list_all}
use Rattle.eb_value.specs.declared.value.Value.{Value}
use Rattle.eb_meaning.specs.Problems.{IsTrueOf}
use Rattle.int_dom.specs.Intervals.{is_single}
use Rattle.occ_store.specs.Stores.{Store, IsLoose, single_values}
use Rattle.tree_checker.specs.Trees.{Facts, Fits, OpensAreLoose, opens, splits_of}
use Rattle.tree_checker.specs.Verdicts.{LeadsTo}
use Rattle.tree_form.specs.declared.line.Line.{Line}
use Rattle.tree_form.specs.declared.line.Line.TheVariants as line
use Rattle.branch_search.specs.declared.depth_first.Move.{Move}
use Rattle.branch_search.specs.declared.depth_first.Move.TheVariants as move
use Rattle.branch_search.specs.declared.depth_first.Answer.{Answer}
use Rattle.branch_search.specs.declared.depth_first.Answer.TheVariants as answer

-- each domain has a number, and none that is outside the one at its place
abbrev pub IsWithin : Store → Store → Type 0
IsWithin [] [] = ⊤
IsWithin [] (e ∷ es) = ⊥
IsWithin (d ∷ ds) [] = ⊥
IsWithin (d ∷ ds) (e ∷ es) = (d.lo ≤ℤ e.lo) × (e.lo ≤ℤ e.hi) × (e.hi ≤ℤ d.hi) × IsWithin ds es

-- the lines lead from the first store to the boxes that are left, with so many splits left
pub record IsGoing (facts : Facts) (first : Store) (budget : ℕ) (boxes : List Store) (lines : List Line) (left : ℕ) (gave_up : Bool) : Type 0 where
  pub leads : LeadsTo facts (first ∷ []) lines boxes
  pub loose : OpensAreLoose (first ∷ []) lines
  pub within : AllByRecursion (IsWithin first) boxes
  pub splits : splits_of lines + left ≡ budget
  pub opens : MatchBool gave_up ((0 < opens lines) × (left ≡ 0)) (opens lines ≡ 0)

-- values of single domains, of which each fact is True
pub record IsSolved (facts : Facts) (store : Store) (values : List Value) : Type 0 where
  pub single : list_all is_single store ≡ true
  pub are_values : values ≡ single_values store
  pub all : All (IsTrueOf facts.scope facts.definitions values) facts.terms

-- What may be done in a store with so many splits left.
abbrev pub IsMove : Facts → Store → ℕ → Move → Type 0
IsMove facts store left (move.Split choice domain) = IsLoose store (choice, domain) × (0 < left)
IsMove facts store left move.Open = (list_all is_single store ≡ false) × (left ≡ 0)
IsMove facts store left (move.Eval fact) = Fits facts store (line.Eval fact)
IsMove facts store left (move.Found values) = IsSolved facts store values

-- What a search ends with.
abbrev pub Ends : Facts → Store → ℕ → Answer → Type 0
Ends facts first budget (answer.Found values) = (store : Store) × IsWithin first store × IsSolved facts store values
Ends facts first budget (answer.Refuted lines) = LeadsTo facts (first ∷ []) lines [] × (opens lines ≡ 0) × (splits_of lines ≤ budget)
Ends facts first budget (answer.Undecided lines) =
    LeadsTo facts (first ∷ []) lines [] × OpensAreLoose (first ∷ []) lines × (0 < opens lines) × (splits_of lines ≡ budget)
