-- Where a line stands, and which fault it has there.
use Rattle.std.specs.Prelude.{◌≡◌, ℕ, Bool, true, false, not, ◌&&◌, ◌||◌, List, [], ◌∷◌, ◌++◌, Option, Result, Ok, Err}
use Rattle.std.specs.List.{find, list_all}
use Rattle.int_dom.specs.Intervals.{is_empty, is_single, has_parts}
use Rattle.tree_form.specs.declared.line.Line.{Line}
use Rattle.tree_form.specs.declared.line.Line.TheVariants as line
use Rattle.tree_form.specs.declared.line.LineFault.{LineFault}
use Rattle.tree_form.specs.declared.line.LineFault.TheVariants as fault_of
use Rattle.occ_store.specs.Places.{has_at}
use Rattle.tree_checker.specs.declared.verdict.Cause.{Cause}
use Rattle.tree_checker.specs.declared.verdict.Cause.TheVariants.{BadLine, NoSuchOccurrence, BadSplit, NoClash, NotSingle, EvalTrue, Unfinished, AfterEnd}
use Rattle.occ_store.specs.Stores.{Store, single_values}
use Rattle.tree_checker.specs.Trees.{Facts, Task, Fits, parts_of, is_untrue, is_header, opens}

-- Before the tree; in the tree, with the stores to be closed, first ones first, and the open boxes so
-- far; or after the end, with the open boxes.
pub data State : Type 0 where
  heading : State
  within : List Store → ℕ → State
  ended : ℕ → State

-- the lines close stores of the list, first ones first, until those of the second list are left
abbrev pub LeadsTo : Facts → List Store → List Line → List Store → Type 0
LeadsTo facts stores [] left = stores ≡ left
LeadsTo facts [] (line ∷ lines) left = ⊥
LeadsTo facts (store ∷ stores) (line ∷ lines) left = Fits facts store line × LeadsTo facts (parts_of store line ++ stores) lines left

-- these lines begin a tree, and leave these stores to be closed
pub record IsInTree (task : Task) (lines : List Line) (stores : List Store) (count : ℕ) : Type 0 where
  pub headers : List Line
  pub body : List Line
  pub all : list_all is_header headers ≡ true
  pub text : lines ≡ headers ++ (line.Begin ∷ body)
  pub leads : LeadsTo task.facts (task.first ∷ []) body stores
  pub open_lines : count ≡ opens body

-- the next line after these stands here
abbrev pub IsPlace : Task → List Line → State → Type 0
IsPlace task lines heading = list_all is_header lines ≡ true
IsPlace task lines (within stores count) = IsInTree task lines stores count
IsPlace task lines (ended count) = (tree_lines : List Line) × IsInTree task tree_lines [] count × (lines ≡ tree_lines ++ (line.End ∷ []))

-- What a text is read as: a line, or why it isn't one.
abbrev pub Reading : Type 0
Reading = Result Line LineFault

-- it is a line that passes the test
abbrev pub is_line : (Line → Bool) → Reading → Bool
is_line test (Ok line) = test line
is_line test (Err fault) = false

abbrev pub is_end : Line → Bool
is_end line.End = true
is_end _ = false

-- a line that stands before the tree
abbrev pub is_of_head : Line → Bool
is_of_head line.Header = true
is_of_head line.Begin = true
is_of_head _ = false

-- it has none of the forms
abbrev pub is_bad : Reading → Bool
is_bad (Err fault_of.BadLine) = true
is_bad _ = false

abbrev pub is_missing : Reading → Bool
is_missing (Err fault_of.NoSuchOccurrence) = true
is_missing _ = false

abbrev pub is_unfit : Reading → Bool
is_unfit (Err fault_of.BadTest) = true
is_unfit _ = false

-- it has the form of a line of a tree
abbrev pub is_of_tree : Reading → Bool
is_of_tree reading = is_missing reading || is_unfit reading || is_line (λ line. not (is_of_head line) && not (is_end line)) reading

-- a line of the tree before it, or a line of the head within it
abbrev pub is_misplaced : State → Reading → Bool
is_misplaced heading reading = is_of_tree reading
is_misplaced (within [] count) reading = false
is_misplaced (within (store ∷ stores) count) reading = is_line is_of_head reading
is_misplaced (ended count) reading = false

-- the tree is closed, and this isn't its end; or its end was there
abbrev pub is_past : State → Reading → Bool
is_past heading reading = false
is_past (within [] count) reading = not (is_line is_end reading)
is_past (within (store ∷ stores) count) reading = false
is_past (ended count) reading = true

-- the tree isn't closed
abbrev pub is_unfinished : State → Bool
is_unfinished heading = true
is_unfinished (within [] count) = false
is_unfinished (within (store ∷ stores) count) = true
is_unfinished (ended count) = false

-- the test, at the store in which the line stands
abbrev pub at_store : State → (Store → Bool) → Bool
at_store heading test = false
at_store (within [] count) test = false
at_store (within (store ∷ stores) count) test = test store
at_store (ended count) test = false

-- a part is empty
abbrev pub is_bad_split : Store → Line → Bool
is_bad_split store (line.Split k n) = not (has_at (has_parts n) k store)
is_bad_split store _ = false

-- the domain isn't empty
abbrev pub is_no_clash : Store → Line → Bool
is_no_clash store (line.Clash k) = not (has_at is_empty k store)
is_no_clash store _ = false

-- a choice isn't single
abbrev pub is_not_single : Store → Line → Bool
is_not_single store (line.Eval k) = not (list_all is_single store)
is_not_single store _ = false

-- the fact, which a text that was read as a line names, is True of the store's values
abbrev pub is_eval_true : Facts → Store → Line → Bool
is_eval_true facts store (line.Eval k) = not (has_at (is_untrue facts (single_values store)) k facts.terms)
is_eval_true facts store _ = false

-- When each cause applies to a text that is read as this and stands here.
abbrev pub applies : Facts → State → Reading → Cause → Bool
applies facts place reading BadLine = is_bad reading || is_misplaced place reading
applies facts place reading AfterEnd = is_past place reading
applies facts place reading Unfinished = is_line is_end reading && is_unfinished place
applies facts place reading NoSuchOccurrence = is_missing reading
applies facts place reading BadSplit = is_unfit reading || at_store place (λ store. is_line (is_bad_split store) reading)
applies facts place reading NoClash = at_store place (λ store. is_line (is_no_clash store) reading)
applies facts place reading NotSingle = at_store place (λ store. is_line (is_not_single store) reading)
applies facts place reading EvalTrue = at_store place (λ store. is_line (is_eval_true facts store) reading)

-- The order in which the causes of one line are tried.
abbrev pub order : List Cause
order = BadLine ∷ AfterEnd ∷ Unfinished ∷ NoSuchOccurrence ∷ BadSplit ∷ NoClash ∷ NotSingle ∷ EvalTrue ∷ []

-- the first cause that applies
abbrev pub fault : Facts → State → Reading → Option Cause
fault facts place reading = find (applies facts place reading) order
