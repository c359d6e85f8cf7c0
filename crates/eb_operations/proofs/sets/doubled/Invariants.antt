use Rattle.std.proofs.Common.{◌≡◌, map, take}
use Rattle.eb_value.specs.Values as value
use Rattle.eb_operations.proofs.sets.doubled.Given as goal

abbrev pub invariant-loop-value : goal.invariant-loop-value
invariant-loop-value l = l.pairs.items ≡ map (λ x. value.pair x x) (take l.value-index l.values)
