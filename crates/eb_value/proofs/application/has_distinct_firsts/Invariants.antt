use Rattle.std.proofs.Common.{◌≡◌, length}
use Rattle.eb_value.specs.steps.Joins as step
use Rattle.eb_value.proofs.application.has_distinct_firsts.Given as goal

abbrev pub invariant-loop-rest : goal.invariant-loop-rest
invariant-loop-rest l = step.is_functional l.fn.f ≡ step.is_functional l.rest

abbrev pub decreases-loop-rest : goal.decreases-loop-rest
decreases-loop-rest l = length l.rest
