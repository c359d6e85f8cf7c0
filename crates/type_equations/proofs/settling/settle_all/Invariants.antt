use Rattle.type_equations.proofs.DepthLaws.{AreDeepened}
use Rattle.type_equations.proofs.settling.settle_all.Given as goal

abbrev pub invariant-loop-number : goal.invariant-loop-number
invariant-loop-number l = AreDeepened l.store l.number l.marks l.depths l.path.items
