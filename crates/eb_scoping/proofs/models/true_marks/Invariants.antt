use Rattle.std.proofs.Common.{◌≡◌, true, replicate}
use Rattle.eb_scoping.proofs.models.true_marks.Given as goal

abbrev pub invariant-loop-unit : goal.invariant-loop-unit
invariant-loop-unit l = l.marks.items ≡ replicate l._unit-index true
