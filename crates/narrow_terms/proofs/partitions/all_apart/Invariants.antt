use Rattle.std.proofs.Common.{◌≡◌, drop}
use Rattle.narrow_terms.specs.steps.Partitions.{all_apart}
use Rattle.narrow_terms.proofs.partitions.all_apart.Given as goal

abbrev pub invariant-loop-set : goal.invariant-loop-set
invariant-loop-set l = all_apart l.ty l.apart (drop l.set-index l.others) ≡ all_apart l.ty l.initial.apart l.others
