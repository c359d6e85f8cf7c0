use Rattle.std.proofs.Common.{◌≡◌, length}
use Rattle.eb_value.specs.steps.Merges as spec
use Rattle.eb_value.proofs.merges.from_value.Given as goal

abbrev pub invariant-loop-rest : goal.invariant-loop-rest
invariant-loop-rest l = spec.from_value l.value l.fn.values ≡ spec.from_value l.value l.rest

abbrev pub decreases-loop-rest : goal.decreases-loop-rest
decreases-loop-rest l = length l.rest
