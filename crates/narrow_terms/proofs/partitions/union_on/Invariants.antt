use Rattle.std.proofs.Common.{◌≡◌, drop}
use Rattle.narrow_terms.specs.Building.{union_on}
use Rattle.narrow_terms.proofs.partitions.union_on.Given as goal

abbrev pub invariant-loop-set : goal.invariant-loop-set
invariant-loop-set l = union_on l.union (drop l.set-index l.others) ≡ union_on l.initial.union l.others
