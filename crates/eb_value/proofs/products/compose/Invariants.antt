use Rattle.std.proofs.Common.{length}
use Rattle.eb_value.proofs.ComposeLaws.{Composes}
use Rattle.eb_value.proofs.products.compose.Given as goal

abbrev pub invariant-loop-value : goal.invariant-loop-value
invariant-loop-value l = Composes l.fn.r l.fn.s l.all.items l.rest

abbrev pub decreases-loop-value : goal.decreases-loop-value
decreases-loop-value l = length l.rest
