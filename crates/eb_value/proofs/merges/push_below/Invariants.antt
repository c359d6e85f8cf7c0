use Rattle.std.proofs.Common.{◌≡◌, ◌++◌, drop}
use Rattle.eb_value.specs.steps.Merges as spec
use Rattle.eb_value.proofs.merges.push_below.Given as goal

abbrev pub invariant-loop-other : goal.invariant-loop-other
invariant-loop-other l = l.all ++ spec.below l.value (drop l.other-index l.values) ≡ l.fn.all ++ spec.below l.value l.values
