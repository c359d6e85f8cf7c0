use Rattle.type_equations.specs.steps.Deepening.{AreLow}
use Rattle.type_equations.proofs.depths.Depths.are_low.Given as goal

abbrev pub invariant-loop-number : goal.invariant-loop-number
invariant-loop-number l = AreLow l.number l.self
