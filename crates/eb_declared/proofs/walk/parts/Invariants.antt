use Rattle.std.proofs.Common.{◌≡◌, map, take}
use Rattle.eb_declared.specs.Parts as spec
use Rattle.eb_declared.specs.Seen as seen
use Rattle.eb_declared.proofs.walk.parts.Given as goal

abbrev pub invariant-loop-i : goal.invariant-loop-i
invariant-loop-i l = map seen.part l.found.items ≡ spec.parts (take l.i l.units) (take l.i l.marks)
