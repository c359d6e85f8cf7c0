use Rattle.std.proofs.Common.{◌≡◌, length}
use Rattle.eb_lowering.specs.steps.Binding as step
use Rattle.eb_lowering.proofs.binding.under_all.Given as goal

abbrev pub invariant-loop-range : goal.invariant-loop-range
invariant-loop-range l = step.under_all l.binder l.initial.ranges l.initial.term ≡ step.under_all l.binder l.ranges l.term

abbrev pub decreases-loop-range : goal.decreases-loop-range
decreases-loop-range l = length l.ranges
