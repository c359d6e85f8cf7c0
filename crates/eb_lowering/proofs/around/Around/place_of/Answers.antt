use Rattle.std.proofs.Common.{◌∙◌, sym, arith}
use Rattle.eb_lowering.proofs.PlaceLaws.{found_here, not_here, never_beyond}
use Rattle.eb_lowering.proofs.around.Around.place_of.Goals as goal

pub returns-then-place-number : goal.returns-then-place-number
returns-then-place-number c =
    sym (c.loop-rest.invariant.0 ∙ found_here c.args.self.now.bound c.args.number c.loop-rest.rest c.in-Some.place.now c.loop-rest-test.true c.loop-rest.invariant.1 c.in-Some.ensures.value c.if-place-number.true)

pub loop-rest-preserved-else-place-number : goal.loop-rest-preserved-else-place-number
loop-rest-preserved-else-place-number c =
    (c.loop-rest.invariant.0 ∙ not_here c.args.self.now.bound c.args.number c.loop-rest.rest c.in-Some.place.now c.loop-rest-test.true c.loop-rest.invariant.1 c.in-Some.ensures.value c.if-place-number.false, omega arith)

pub loop-rest-preserved : goal.loop-rest-preserved
loop-rest-preserved c = absurd (never_beyond c.args.self.now.bound c.loop-rest.rest c.loop-rest-test.true c.loop-rest.invariant.1 c.in_default.ensures.value)
