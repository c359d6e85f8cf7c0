use Rattle.std.proofs.Common.{length}
use Rattle.eb_value.specs.Types.{integer}
use Rattle.type_equations.specs.steps.Sizes.{weight}
use Rattle.type_equations.specs.Solutions.{type_at}
use Rattle.type_equations.proofs.solution.+written.Given as goal

abbrev pub decreases-written : goal.decreases-written
decreases-written l = weight (type_at integer l.store.now) (length l.store.now) l.number
