use Rattle.std.proofs.Common.{◌≡◌, ◌++◌, drop}
use Rattle.std.specs.List.{filter_map}
use Rattle.eb_operations.specs.Operations as spec
use Rattle.eb_operations.proofs.operations.sides.Given as goal

abbrev pub invariant-loop-value : goal.invariant-loop-value
invariant-loop-value l = filter_map (spec.part_of l.side) l.values ≡ l.sides.items ++ filter_map (spec.part_of l.side) (drop l.value-index l.values)
