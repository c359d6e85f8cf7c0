use Rattle.std.proofs.Common.{◌∙◌, ap, sym}
use Rattle.eb_lowering.specs.steps.Binding as step
use Rattle.eb_lowering.proofs.BindingLaws.{under_more}
use Rattle.eb_lowering.proofs.binding.under_all.Goals as goal

pub loop-range-preserved : goal.loop-range-preserved
loop-range-preserved c =
    c.loop-range.invariant
    ∙ ap (λ z. step.under_all c.args.binder z c.loop-range.term) c.in-Some.ensures
    ∙ under_more c.args.binder c.pop.new.self c.in-Some.range c.loop-range.term
    ∙ ap (step.under_all c.args.binder c.pop.new.self) (sym c.in_ok-term.ensures)
