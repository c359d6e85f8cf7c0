use Rattle.std.proofs.Common.{◌∙◌, ap, ap₂}
use Rattle.eb_forms.specs.Forms.{is_value}
use Rattle.eb_lowering.specs.steps.Anchoring as step
use Rattle.eb_lowering.proofs.anchors.is_anchor.Goals as goal

pub returns : goal.returns
returns c = λ s. c.is_bound.ensures ∙ ap₂ (step.is_bound c.args.leaves.now c.args.free.now) (c.is_value-is_value.ensures ∙ ap is_value (c.kind_of.ensures s)) (c.uses_any-uses_free.ensures s)
