use Rattle.std.proofs.Common.{◌+◌, ◌*◌, length}
use Rattle.std.specs.Prelude.{⊤}
use Rattle.type_equations.specs.Stores.{roots}
use Rattle.type_equations.specs.steps.Merging.{Steps}
use Rattle.type_equations.proofs.merging.unify.Given as goal

abbrev pub invariant-loop-first : goal.invariant-loop-first
invariant-loop-first l = Steps (λ σ. ⊤) l.fn.store l.fn.pairs.items l.store l.pairs.items

abbrev pub decreases-loop-first : goal.decreases-loop-first
decreases-loop-first l = 3 * roots l.store + length l.pairs.items
