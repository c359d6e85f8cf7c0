use Rattle.std.proofs.Common.{arith}
use Rattle.eb_narrow.specs.steps.Counting.{cap}
use Rattle.eb_narrow.proofs.counts.nodes_at.Goals as goal

pub returns : goal.returns
unfolding cap
returns c = omega (arith, c.saturating_add.ensures, c.saturating_mul.ensures)
