use Rattle.std.proofs.Common.{◌≡◌, length}
use Rattle.eb_value.specs.steps.Reading as spec
use Rattle.eb_value.proofs.read.digits_at.Given as goal

abbrev pub invariant-loop-rest : goal.invariant-loop-rest
invariant-loop-rest l = spec.digits_at l.number l.rest ≡ spec.digits_at 0 l.text

abbrev pub decreases-loop-rest : goal.decreases-loop-rest
decreases-loop-rest l = length l.rest
