-- What contracts see of the adapters.
use Rattle.std.specs.Prelude.{ℕ, List, Option}

-- the system's files: the names that were given to `open`, the open one's name, the bytes that its reader says are left, how many calls
-- failed, and the file of the last that did
pub record FilesState : Type 0 where
  pub opened : List (List ℕ)
  pub open_name : Option (List ℕ)
  pub rest : Option (List ℕ)
  pub faults : ℕ
  pub fault_name : Option (List ℕ)

-- a writer: the bytes that it says it holds, and how many calls failed
pub record WriterState : Type 0 where
  pub taken : Option (List ℕ)
  pub faults : ℕ
