use Rattle.std.proofs.Common.{arith}
use Rattle.eb_typing.proofs.Bounds.{below_more}
use Rattle.eb_typing.proofs.problem.total_of.Goals as goal

pub loop-equation-preserved : goal.loop-equation-preserved
loop-equation-preserved c = (
  omega (arith, c.loop-equation.invariant.0, c.in_ok-total.ensures.grows),
  below_more c.loop-equation.total c.in_ok-total.total c.args.equations.now c.loop-equation.equation-index _ c.loop-equation-test.true c.in_ok-total.ensures.grows c.loop-equation.invariant.1 c.in_ok-total.ensures.below,
)
