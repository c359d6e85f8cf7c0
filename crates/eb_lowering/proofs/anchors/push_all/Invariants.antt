use Rattle.std.proofs.Common.{◌≡◌, ◌++◌, map, take}
use Rattle.eb_lowering.specs.steps.Anchoring as step
use Rattle.eb_lowering.proofs.anchors.push_all.Given as goal

abbrev pub invariant-loop-number : goal.invariant-loop-number
invariant-loop-number l = l.ranges.items ≡ l.initial.ranges.items ++ map step.of_all (take l.number-index l.free)
