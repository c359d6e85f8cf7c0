-- What the checker's fields stand for.
use Rattle.std.specs.Prelude.{◌≡◌, ⊤, ℕ, Bool, true, false, List, [], ◌∷◌, ◌++◌, ℤ, pos}
use Rattle.int_dom.specs.declared.interval.Interval.{Interval}
use Rattle.int_dom.specs.Intervals.{has_parts}
use Rattle.occ_store.specs.Places.{has_at}
use Rattle.occ_store.specs.Stores.{Store, AreParts}
use Rattle.tree_checker.specs.declared.checker.Checker.{Checker}
use Rattle.tree_checker.specs.declared.checker.Phase.{Phase}
use Rattle.tree_checker.specs.declared.checker.Phase.TheVariants.{Heading, Within, Ended}
use Rattle.tree_form.specs.declared.line.Line.{Line}
use Rattle.tree_form.specs.declared.line.Line.TheVariants as line
use Rattle.tree_checker.specs.Trees.{Facts, Task, parts_of}
use Rattle.tree_checker.specs.Verdicts.{State, heading, within, ended}

abbrev pub state_from : Phase → List Store → ℕ → State
state_from Heading boxes count = heading
state_from Within boxes count = within boxes count
state_from Ended boxes count = ended count

abbrev pub state_of : Checker → State
state_of c = state_from c.phase c.boxes c.opens

-- there is a first box, and a number leaves both parts of its choice's domain non-empty
abbrev pub first_has_parts : List Store → ℕ → ℤ → Bool
first_has_parts [] k n = false
first_has_parts (store ∷ stores) k n = has_at (has_parts n) k store

-- these are the parts of the first box's choice
abbrev pub AreFirstParts : List Store → ℕ → ℤ → Interval × Interval → Type 0
AreFirstParts [] k n parts = ⊥
AreFirstParts (store ∷ stores) k n parts = AreParts store k n parts

-- a split fits the first box
abbrev pub IsSplitThere : List Store → Line → Type 0
IsSplitThere stores (line.Split k n) = first_has_parts stores k n ≡ true
IsSplitThere stores _ = ⊤

-- a split fits the store in which it stands
abbrev pub Continues : State → Line → Type 0
Continues heading line = ⊤
Continues (within [] count) line = ⊤
Continues (within (store ∷ stores) count) line = IsSplitThere (store ∷ stores) line
Continues (ended count) line = ⊤

-- the boxes after the line, which stands in the first one
abbrev pub after_line : List Store → Line → List Store
after_line [] line = []
after_line (store ∷ stores) line = parts_of store line ++ stores

-- where no fact is asked for
abbrev pub no_facts : Facts
no_facts = record { scope = record { lo = pos 0; hi = pos 0; sizes = []; depth = 0 }; definitions = []; terms = [] }

-- no line changes the facts
abbrev pub task_at : Store → Task
task_at first = record { facts = no_facts; first = first }
