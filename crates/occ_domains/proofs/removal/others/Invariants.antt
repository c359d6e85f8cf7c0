use Rattle.std.proofs.Common.{◌≡◌, filter, take}
use Rattle.occ_domains.specs.Bodies.{is_other}
use Rattle.occ_domains.proofs.removal.others.Given as goal

abbrev pub invariant-loop-other : goal.invariant-loop-other
invariant-loop-other l = l.others ≡ filter (is_other l.value) (take l.other-index l.values)
