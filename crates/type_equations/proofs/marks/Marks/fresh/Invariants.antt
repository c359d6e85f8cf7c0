use Rattle.type_equations.specs.steps.Settling.{AreFresh}
use Rattle.type_equations.proofs.marks.Marks.fresh.Given as goal

abbrev pub invariant-loop-number : goal.invariant-loop-number
invariant-loop-number l = AreFresh l._number l.marks.items
