use Rattle.std.proofs.Common.{◌≡◌, map, length}
use Rattle.eb_value.specs.Canonical.{AreCanonical}
use Rattle.eb_value.specs.Comprehensions as sets
use Rattle.eb_operations.specs.Tests as spec
use Rattle.eb_operations.proofs.predicates.are_disjoint.Given as goal

abbrev pub invariant-loop-rest : goal.invariant-loop-rest
invariant-loop-rest l = (spec.are_disjoint (map sets.members l.initial.values) ≡ spec.are_disjoint (map sets.members l.rest)) × AreCanonical l.rest

abbrev pub decreases-loop-rest : goal.decreases-loop-rest
decreases-loop-rest l = length l.rest
