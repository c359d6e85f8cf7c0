use Rattle.std.proofs.Common.{◌≡◌, take}
use Rattle.eb_resolved.proofs.copies.pattern_copied.Given as goal

abbrev pub invariant-loop-mark : goal.invariant-loop-mark
invariant-loop-mark l = l.copy ≡ take l.mark-index l.marks
