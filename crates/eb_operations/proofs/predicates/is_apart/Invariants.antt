use Rattle.std.proofs.Common.{◌≡◌, not, map, drop}
use Rattle.std.specs.List.{list_all}
use Rattle.eb_value.specs.Comprehensions as sets
use Rattle.eb_operations.proofs.predicates.is_apart.Given as goal

abbrev pub invariant-loop-other : goal.invariant-loop-other
invariant-loop-other l = list_all (λ t. list_all (λ v. not (sets.has t v)) (sets.members l.set)) (map sets.members l.others)
    ≡ list_all (λ t. list_all (λ v. not (sets.has t v)) (sets.members l.set)) (map sets.members (drop l.other-index l.others))
