use Rattle.std.proofs.Common.{◌≡◌, drop, not}
use Rattle.std.specs.List.{list_all}
use Rattle.eb_value.specs.Comprehensions as sets
use Rattle.eb_operations.proofs.predicates.are_apart.Given as goal

abbrev pub invariant-loop-value : goal.invariant-loop-value
invariant-loop-value l = (list_all (λ v. not (sets.has (sets.members l.other) v)) (sets.members l.set)
    ≡ list_all (λ v. not (sets.has (sets.members l.other) v)) (drop l.value-index l.value-items)) × (l.value-items ≡ sets.members l.set)
