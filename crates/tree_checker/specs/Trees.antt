-- Refutation trees: what they are, when they hold, and the lines of a whole tree.
use Rattle.std.specs.Prelude.{◌≡◌, ⊤, ℕ, ◌+◌, Bool, true, false, not, cond, List, [], ◌∷◌, ◌++◌}
use Rattle.std.specs.List.{list_all}
use Rattle.eb_value.specs.declared.scope.Scope.{Scope}
use Rattle.eb_value.specs.declared.value.Value.{Value}
use Rattle.eb_term.specs.declared.problem.Problem.{Problem}
use Rattle.eb_term.specs.declared.term.Term.{Term}
use Rattle.eb_meaning.specs.Truths.{is_true}
use Rattle.eb_meaning.specs.Problems.{slots_of, fact_at}
use Rattle.int_dom.specs.Intervals.{is_empty, is_single, at_most, above, has_parts}
use Rattle.tree_form.specs.declared.line.Line.{Line}
use Rattle.tree_form.specs.declared.line.Line.TheVariants as line
use Rattle.occ_store.specs.Places.{has_at, changed_at}
use Rattle.occ_store.specs.Stores.{Store, single_values}

-- What says whether the facts are True: the scope, the definitions and the facts.
pub record Facts : Type 0 where
  pub scope : Scope
  pub definitions : List Term
  pub terms : List Term

-- those of a problem
abbrev pub facts_of : Scope → Problem → Facts
facts_of scope problem = record { scope = scope; definitions = problem.definitions; terms = problem.facts }

abbrev pub is_untrue : Facts → List Value → Term → Bool
is_untrue facts values fact = not (is_true (fact_at facts.scope (slots_of facts.scope facts.definitions values) fact))

-- What a line asks of the store in which it stands: a split leaves both parts of a choice's domain
-- non-empty; a choice whose domain is empty closes the store, and so does a fact that isn't True
-- where all domains are single.
abbrev pub Fits : Facts → Store → Line → Type 0
Fits facts store (line.Split k n) = has_at (has_parts n) k store ≡ true
Fits facts store (line.Clash k) = has_at is_empty k store ≡ true
Fits facts store (line.Eval k) = (list_all is_single store ≡ true) × (has_at (is_untrue facts (single_values store)) k facts.terms ≡ true)
Fits facts store line.Open = ⊤
Fits facts store line.Header = ⊥
Fits facts store line.Begin = ⊥
Fits facts store line.End = ⊥

-- the stores that a line leaves to be closed, in order
abbrev pub parts_of : Store → Line → List Store
parts_of store (line.Split k n) = changed_at (at_most n) k store ∷ changed_at (above n) k store ∷ []
parts_of store (line.Clash k) = []
parts_of store (line.Eval k) = []
parts_of store line.Open = []
parts_of store line.Header = []
parts_of store line.Begin = []
parts_of store line.End = []

-- A line with no, one or two subtrees.
pub data Tree : Type 0 where
  leaf : Line → Tree
  one : Line → Tree → Tree
  two : Line → Tree → Tree → Tree

-- the tree's lines fit the stores in which they stand, and have a subtree for each part
abbrev pub Holds : Facts → Store → Tree → Type 0
Holds facts store (leaf line) = Fits facts store line × (parts_of store line ≡ [])
Holds facts store (one line tree) = (a : Store) × Fits facts store line × (parts_of store line ≡ a ∷ []) × Holds facts a tree
Holds facts store (two line first second) =
    (a b : Store) × Fits facts store line × (parts_of store line ≡ a ∷ b ∷ []) × Holds facts a first × Holds facts b second

-- in prefix order
abbrev pub lines_of : Tree → List Line
lines_of (leaf line) = line ∷ []
lines_of (one line tree) = line ∷ lines_of tree
lines_of (two line first second) = line ∷ (lines_of first ++ lines_of second)

abbrev pub is_open : Line → Bool
is_open line.Open = true
is_open _ = false

abbrev pub is_split : Line → Bool
is_split (line.Split k n) = true
is_split _ = false

abbrev pub is_header : Line → Bool
is_header line.Header = true
is_header _ = false

-- how many lines leave their box open
abbrev pub opens : List Line → ℕ
opens [] = 0
opens (line ∷ lines) = cond (is_open line) 1 0 + opens lines

-- how many lines split
abbrev pub splits_of : List Line → ℕ
splits_of [] = 0
splits_of (line ∷ lines) = cond (is_split line) 1 0 + splits_of lines

-- each open line stands in a store in which some choice isn't single
abbrev pub OpensAreLoose : List Store → List Line → Type 0
OpensAreLoose stores [] = ⊤
OpensAreLoose [] (line ∷ lines) = ⊤
OpensAreLoose (store ∷ stores) (line ∷ lines) = (is_open line ≡ true → list_all is_single store ≡ false) × OpensAreLoose (parts_of store line ++ stores) lines

-- What a tree is judged by: the facts, and the store in which it stands.
pub record Task : Type 0 where
  pub facts : Facts
  pub first : Store

-- the lines are headers, the beginning, a tree that holds and has this number of open boxes, and the end
pub record IsWhole (task : Task) (lines : List Line) (count : ℕ) : Type 0 where
  pub headers : List Line
  pub tree : Tree
  pub all : list_all is_header headers ≡ true
  pub holds : Holds task.facts task.first tree
  pub text : lines ≡ headers ++ (line.Begin ∷ (lines_of tree ++ (line.End ∷ [])))
  pub open_lines : count ≡ opens (lines_of tree)

-- some whole lines begin with these
abbrev pub IsViable : Task → List Line → Type 0
IsViable task lines = (more : List Line) × (count : ℕ) × IsWhole task (lines ++ more) count
