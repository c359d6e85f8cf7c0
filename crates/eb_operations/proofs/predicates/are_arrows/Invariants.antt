use Rattle.std.proofs.Common.{◌≡◌, drop}
use Rattle.std.specs.List.{list_all}
use Rattle.eb_operations.specs.Tests as spec
use Rattle.eb_operations.proofs.predicates.are_arrows.Given as goal

abbrev pub invariant-loop-value : goal.invariant-loop-value
invariant-loop-value l = list_all (spec.is_arrow_in l.arrow) l.values ≡ list_all (spec.is_arrow_in l.arrow) (drop l.value-index l.values)
