use Rattle.std.proofs.Common.{◌≡◌, take, filter}
use Rattle.eb_value.specs.Comprehensions.{has}
use Rattle.occ_domains.proofs.meets.kept.Given as goal

abbrev pub invariant-loop-value : goal.invariant-loop-value
invariant-loop-value l = l.kept ≡ filter (has l.others) (take l.value-index l.values)
