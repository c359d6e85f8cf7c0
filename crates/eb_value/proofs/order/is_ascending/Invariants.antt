use Rattle.std.proofs.Common.{◌≡◌, length}
use Rattle.eb_value.specs.Values as spec
use Rattle.eb_value.proofs.order.is_ascending.Given as goal

abbrev pub invariant-loop-rest : goal.invariant-loop-rest
invariant-loop-rest l = spec.is_ascending l.fn.values ≡ spec.is_ascending l.rest

abbrev pub decreases-loop-rest : goal.decreases-loop-rest
decreases-loop-rest l = length l.rest
