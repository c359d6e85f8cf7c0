use Rattle.std.proofs.Common.{◌≡◌, drop}
use Rattle.eb_value.specs.Comprehensions.{has}
use Rattle.occ_domains.proofs.meets.is_among.Given as goal

abbrev pub invariant-loop-other : goal.invariant-loop-other
invariant-loop-other l = has l.values l.value ≡ has (drop l.other-index l.values) l.value
