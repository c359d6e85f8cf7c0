use Rattle.std.proofs.Common.{◌≡◌, drop}
use Rattle.std.specs.List.{list_all}
use Rattle.eb_value.specs.Comprehensions as sets
use Rattle.eb_operations.proofs.predicates.has_each.Given as goal

abbrev pub invariant-loop-value : goal.invariant-loop-value
invariant-loop-value l = list_all (sets.has (sets.members l.set)) l.values ≡ list_all (sets.has (sets.members l.set)) (drop l.value-index l.values)
