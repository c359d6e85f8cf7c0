use Rattle.std.proofs.Common.{◌≡◌, take}
use Rattle.eb_lower.specs.steps.Facts as facts
use Rattle.eb_lower.proofs.facts.statics.Given as goal

abbrev pub invariant-loop-i : goal.invariant-loop-i
invariant-loop-i l = facts.seen_heads l.heads.items ≡ facts.all_heads 0 (take l.i l.units) (take l.i l.marks)
