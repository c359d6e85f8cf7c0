use Rattle.std.proofs.Common.{◌≡◌, false, take}
use Rattle.eb_scoping.specs.FreeNames.{is_among, names_of}
use Rattle.eb_scoping.proofs.uses.is_among.Given as goal

abbrev pub invariant-loop-other : goal.invariant-loop-other
invariant-loop-other l = is_among (names_of (take l.other-index l.identifiers)) l.name ≡ false
