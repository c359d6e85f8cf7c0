use Rattle.eb_scoping.proofs.MarkLaws.{Marking}
use Rattle.eb_scoping.proofs.models.marked.Given as goal

abbrev pub invariant-loop-i : goal.invariant-loop-i
invariant-loop-i l = Marking l.units l.i l.marks l.is_behind_machine
