use Rattle.type_equations.specs.Stores.{IsFree}
use Rattle.type_equations.proofs.store.Store.free.Given as goal

abbrev pub invariant-loop-number : goal.invariant-loop-number
invariant-loop-number l = IsFree l._number l.entries.items
