use Rattle.std.proofs.Common.{arith, ◌≡◌, ◌∙◌, ap}
use Rattle.cbc_answers.specs.steps.Repeating.{repeated}
use Rattle.cbc_answers.proofs.PushedTexts.{one_more}
use Rattle.cbc_answers.proofs.answer.repeated.Goals as goal

pub loop-preserved : goal.loop-preserved
loop-preserved c = one_more c.loop.counter c.args.text.now c.loop.all.items c.extend_from_slice.new.self.items c.loop.invariant c.in_ok-extend_from_slice.ensures.items

pub returns : goal.returns
returns c =
    let all : c.loop.counter ≡ c.args.times = omega arith in
    c.from_vec.ensures ∙ c.loop.invariant ∙ ap (λ n. repeated n c.args.text.now) all
