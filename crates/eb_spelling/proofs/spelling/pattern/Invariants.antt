use Rattle.std.proofs.Common.{◌≡◌, ◌++◌, map, take}
use Rattle.eb_spelling.specs.Spelling.{mark_kind}
use Rattle.eb_spelling.proofs.spelling.pattern.Given as goal

abbrev pub invariant-loop-item : goal.invariant-loop-item
invariant-loop-item l = l.out ≡ l.initial.out ++ map mark_kind (take l.item-index l.marks)
