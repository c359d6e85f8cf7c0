use Rattle.type_equations.specs.Stores.{SaysTheSame, Leads}
use Rattle.type_equations.proofs.store.Store.root.Given as goal

abbrev pub invariant-loop-next : goal.invariant-loop-next
invariant-loop-next l = SaysTheSame l.fn.self l.self × Leads l.self l.number l.at

abbrev pub decreases-loop-next : goal.decreases-loop-next
decreases-loop-next l = l.at
