use Rattle.std.proofs.Common.{◌≡◌, ◌∙◌, Bool, ◌&&◌, ◌||◌, sym, ap₂}
use Rattle.eb_syntax.specs.declared.ast.Operator.{Operator}
use Rattle.eb_term.specs.declared.term.Term.{Term}
use Rattle.operator_kinds.specs.Operators.{is_product}
use Rattle.eb_wd.proofs.ConditionsAt.{conditions}
use Rattle.eb_wd.proofs.WellDefinedAt as at
use Rattle.eb_wd.proofs.WellDefinedAt.{becomes}
use Rattle.eb_wd.proofs.parts.+and_values.Goals as goal

-- whether it is a product with a form, by the parts
form_is : (o : Operator) (a b one other : Term) (form : Bool) → one ≡ a → other ≡ b → form ≡ (is_product o && ((conditions one).is_form || (conditions other).is_form))
    → (is_product o && ((conditions a).is_form || (conditions b).is_form)) ≡ form
form_is o a b one other form e g h = sym (h ∙ ap₂ (λ y z. is_product o && ((conditions y).is_form || (conditions z).is_form)) e g)

pub returns-in-Itself : goal.returns-in-Itself
returns-in-Itself t c = becomes c.and_defined.result _ _ (at.unary_itself c.args.term.now c.in-Unary.part c.args.so_far _ c.in-Unary.is (c.of_one.ensures.itself c.in-Itself.is)) c.and_defined.ensures

pub returns-in-If : goal.returns-in-If
returns-in-If t c = becomes c.and_defined-in-If.result _ _ (at.if_itself c.args.term.now c.in-Binary.left c.in-Binary.right c.args.so_far _ c.in-Binary.is c.in-If.is) c.and_defined-in-If.ensures

pub returns-in-Extension : goal.returns-in-Extension
returns-in-Extension t c = becomes c.and_defined-in-Extension.result _ _ (at.extension_itself c.args.term.now c.args.so_far c.in-Many.field-1 _ c.in-Many.is c.in-Extension.is) c.and_defined-in-Extension.ensures

pub returns-in-Collect : goal.returns-in-Collect
returns-in-Collect t c = becomes c.and_defined-in-Collect.result _ _ (at.collected_over_itself c.args.term.now c.in-Over.field-1 c.in-Over.field-2 c.args.so_far _ c.in-Over.is c.in-Collect.is) c.and_defined-in-Collect.ensures

pub returns-in-Collect-binder : goal.returns-in-Collect-binder
returns-in-Collect-binder t c = becomes c.and_defined-in-Collect-binder.result _ _ (at.collected_itself c.args.term.now c.in-All.field-2 c.args.so_far c.in-All.field-1 _ c.in-All.is c.in-Collect-binder.is) c.and_defined-in-Collect-binder.ensures

pub returns-in-Itself-of_two : goal.returns-in-Itself-of_two
returns-in-Itself-of_two t c = becomes c.and_defined-in-Itself-of_two.result _ _
    (at.operator_itself c.args.term.now c.in-Binary.left c.in-Binary.right c.args.so_far _ _ c.in-Binary.is c.in-Operator.is
    (c.of_two.ensures.itself c.in-Itself-of_two.is (conditions c.in-Binary.left) (conditions c.in-Binary.right)
    (form_is c.in-Operator.operator c.in-Binary.left c.in-Binary.right c.get-in-Operator.result.now c.get-in-Operator-2.result.now c.is_product_form-form.result c.get-in-Operator.ensures c.get-in-Operator-2.ensures c.is_product_form-form.ensures)))
    c.and_defined-in-Itself-of_two.ensures

pub returns-in_ok-first-in-InParts-of_two : goal.returns-in_ok-first-in-InParts-of_two
returns-in_ok-first-in-InParts-of_two t c = becomes c.and_values-in-InParts-of_two-2.result _ _
    (at.operator_parts c.args.term.now c.in-Binary.left c.in-Binary.right c.args.so_far _ _ c.in-Binary.is c.in-Operator.is
    (c.of_two.ensures.in_parts c.in-InParts-of_two.is (conditions c.in-Binary.left) (conditions c.in-Binary.right)
    (form_is c.in-Operator.operator c.in-Binary.left c.in-Binary.right c.get-in-Operator.result.now c.get-in-Operator-2.result.now c.is_product_form-form.result c.get-in-Operator.ensures c.get-in-Operator-2.ensures c.is_product_form-form.ensures))
    c.get-in-InParts-of_two.result.now c.get-in-InParts-of_two-2.result.now c.in_ok-first-in-InParts-of_two.first c.get-in-InParts-of_two.ensures c.get-in-InParts-of_two-2.ensures c.in_ok-first-in-InParts-of_two.ensures)
    c.and_values-in-InParts-of_two-2.ensures
