use Rattle.std.proofs.Common.{◌≡◌, drop}
use Rattle.std.specs.List.{list_all}
use Rattle.eb_operations.specs.Tests as spec
use Rattle.eb_operations.proofs.predicates.are_pairs.Given as goal

abbrev pub invariant-loop-value : goal.invariant-loop-value
invariant-loop-value l = list_all (spec.is_pair) l.values ≡ list_all (spec.is_pair) (drop l.value-index l.values)
