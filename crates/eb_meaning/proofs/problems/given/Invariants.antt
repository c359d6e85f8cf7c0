use Rattle.std.proofs.Common.{◌≡◌, take, map, Some}
use Rattle.eb_meaning.proofs.problems.given.Given as goal

abbrev pub invariant-loop-value : goal.invariant-loop-value
invariant-loop-value l = l.slots ≡ map (λ v. Some v) (take l.value-index l.values)
