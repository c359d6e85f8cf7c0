use Rattle.std.proofs.Common.{arith, map}
use Rattle.cbc_answers.proofs.PushedTexts.{constant_more, no_more_lines}
use Rattle.cbc_answers.proofs.answer.push_constants.Goals as goal

pub loop-k-preserved : goal.loop-k-preserved
loop-k-preserved c =
    constant_more c.args.sets.now c.args.constants.now c.args.values.now c.loop-k.k c.index-constants-k.result c.in-Some.value.now c.loop-k.text.items c.push_constant.new.text.items _
    (omega arith) c.index-constants-k.is c.in-Some.ensures.lookup.3.0 c.in-Some.ensures.lookup.1 (c.in_ok-push_constant.ensures 0) c.loop-k.invariant

pub returns-in_default : goal.returns-in_default
returns-in_default c =
    no_more_lines c.args.sets.now (map (λ x. x.now) c.args.constants.now) c.args.values.now c.loop-k.k c.loop-k.text.items _ c.in_default.ensures.lookup.3 c.loop-k.invariant
