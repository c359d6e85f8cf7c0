use Rattle.std.proofs.Common.{◌≡◌, take}
use Rattle.eb_resolved.proofs.copies.identifiers_copied.Given as goal

abbrev pub invariant-loop-identifier : goal.invariant-loop-identifier
invariant-loop-identifier l = l.copy ≡ take l.identifier-index l.all
