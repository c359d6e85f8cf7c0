use Rattle.std.proofs.Common.{◌≡◌, length}
use Rattle.eb_value.specs.Canonical.{IsCanonical}
use Rattle.eb_operations.specs.Operations as spec
use Rattle.eb_operations.proofs.operations.part_at.Given as goal

abbrev pub invariant-loop-rest : goal.invariant-loop-rest
invariant-loop-rest l = (spec.part_at l.initial.path l.initial.value ≡ spec.part_at l.rest l.part) × IsCanonical l.part

abbrev pub decreases-loop-rest : goal.decreases-loop-rest
decreases-loop-rest l = length l.rest
