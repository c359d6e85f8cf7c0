use Rattle.type_equations.specs.steps.Settling.{AreFixed}
use Rattle.type_equations.proofs.settling.loose.Given as goal

abbrev pub invariant-loop-number : goal.invariant-loop-number
invariant-loop-number l = AreFixed l.number l.marks
