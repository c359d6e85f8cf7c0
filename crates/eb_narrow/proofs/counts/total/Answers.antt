use Rattle.std.proofs.Common.{sym}
use Rattle.eb_narrow.specs.steps.Counting.{cap}
use Rattle.eb_narrow.proofs.Capped.{of_zero, sum_next}
use Rattle.eb_narrow.proofs.counts.total.Goals as goal

pub loop-number-preserved : goal.loop-number-preserved
unfolding cap
loop-number-preserved c =
    let h = c.loop-number.invariant in
    let e = c.saturating_add-total.ensures in
    let n = sum_next c.args.numbers.now c.loop-number.number-index 0 c.loop-number-test.true in
    cc

pub loop-number-init : goal.loop-number-init
loop-number-init c = sym of_zero
