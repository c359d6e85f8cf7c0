use Rattle.std.proofs.Common.{◌∙◌, ap, ap₂, sym}
use Rattle.eb_forms.specs.Forms as forms
use Rattle.eb_lowering.specs.Lowering as spec
use Rattle.eb_lowering.proofs.UsesRows as row
use Rattle.eb_lowering.proofs.kinds.+kinds.Goals as goal

pub returns-in-Operator : goal.returns-in-Operator
returns-in-Operator t c = λ s.
    c.operator_kind.ensures
    ∙ ap₂ (forms.operator_kind c.in-Operator.operator) (c.kind_of.ensures s ∙ ap (λ r. (spec.lowered s r).kind) c.get.ensures) (c.kind_of-in-Operator.ensures s ∙ ap (λ r. (spec.lowered s r).kind) c.get-in-Operator.ensures)
    ∙ sym (row.operator_kind s c.args.formula.now c.in-Operator.operator c.in-Operator.left c.in-Operator.right c.in-Operator.is)
