use Rattle.type_equations.specs.Stores.{SaysTheSame}
use Rattle.type_equations.proofs.solving.shorten_all.Given as goal

abbrev pub invariant-loop-number : goal.invariant-loop-number
invariant-loop-number l = SaysTheSame l.fn.store l.store
