-- What the fields of the source in memory stand for. No public clause names this.
use Rattle.std.specs.Prelude.{ℕ, ◌<◌, ◌≤◌, List, [], Option, Some, None, drop, length, option_map, IfSome}
use Rattle.cbc_outside.specs.declared.mem_source.OpenFile.{OpenFile}
use Rattle.cbc_outside.specs.declared.mem_source.MemSource.TheInside.{Inside}
use Rattle.cbc_outside.specs.Outside.{Files}
use Rattle.cbc_outside.specs.Memory.{SourceState, bytes_at}

-- what is left of the open file, nothing where none is open
abbrev pub rest_of : Files → Option OpenFile → List ℕ
rest_of files None = []
rest_of files (Some file) = drop file.at (bytes_at files file.place)

-- what contracts see of a source's fields
abbrev pub state_of : Inside → SourceState
state_of s = record {
  files = s.files;
  failing = s.failing;
  calls = s.calls;
  opened = s.opened.names;
  open_name = option_map (λ file. file.name) s.current;
  rest = rest_of s.files s.current;
  faults = s.faults;
  fault_name = s.fault_name;
}

-- the open file is one of the list, and no more of it was read than it has
abbrev pub IsWithin : Inside → Type 0
IsWithin s = IfSome s.current (λ file. (file.place < length s.files) × (file.at ≤ length (bytes_at s.files file.place)))
