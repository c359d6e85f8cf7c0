use Rattle.std.proofs.Common.{◌-◌, ◌+◌, length}
use Rattle.domain_store.specs.steps.Rows.{SameRows}
use Rattle.domain_store.proofs.slots.widen.Given as goal

abbrev pub invariant-loop-alloc : goal.invariant-loop-alloc
invariant-loop-alloc l = SameRows l.fn.rows.items l.rows.items

abbrev pub decreases-loop-alloc : goal.decreases-loop-alloc
decreases-loop-alloc l = (l.number + 1) - length l.rows.items
