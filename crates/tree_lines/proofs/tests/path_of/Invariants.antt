use Rattle.std.proofs.Common.{◌≡◌, map, take}
use Rattle.tree_lines.specs.steps.Reading as step
use Rattle.tree_lines.proofs.tests.path_of.Given as goal

abbrev pub invariant-loop-byte : goal.invariant-loop-byte
invariant-loop-byte l = l.path ≡ map step.side_of (take l.byte-index l.word)
