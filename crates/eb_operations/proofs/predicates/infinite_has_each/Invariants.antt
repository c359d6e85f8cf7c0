use Rattle.std.proofs.Common.{◌≡◌, drop}
use Rattle.std.specs.List.{list_all}
use Rattle.eb_operations.specs.Tests as spec
use Rattle.eb_operations.proofs.predicates.infinite_has_each.Given as goal

abbrev pub invariant-loop-value : goal.invariant-loop-value
invariant-loop-value l = list_all (spec.infinite_has l.set) l.values ≡ list_all (spec.infinite_has l.set) (drop l.value-index l.values)
