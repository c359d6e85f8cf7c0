use Rattle.std.proofs.Common.{◌∙◌, ap, ap₂, sym, map, ◌||◌, ◌++◌, ◌+◌, drop}
use Rattle.std.specs.List.{list_any}
use Rattle.std.proofs.lemmas.List.Folds.{list_any-append}
use Rattle.eb_lowering.specs.Anchors.{is_in}
use Rattle.eb_lowering.specs.Lowering as spec
use Rattle.eb_lowering.proofs.UsesRows as row
use Rattle.eb_lowering.proofs.UsesRows.{some_used, one_more, none_left}
use Rattle.eb_lowering.proofs.kinds.+using.Goals as goal

pub any_uses-returns-then-uses_any : goal.any_uses-returns-then-uses_any
any_uses-returns-then-uses_any t c = λ s.
    sym (c.loop-formula.invariant s
    ∙ one_more c.args.numbers.now s c.args.formulas.now c.loop-formula.formula-index c.formula-item.result c.loop-formula-test.true c.formula-item.is
    ∙ ap (λ b. b || some_used c.args.numbers.now s (drop (c.loop-formula.formula-index + 1) c.args.formulas.now)) (sym (c.uses_any.ensures s) ∙ c.if-uses_any.true))

pub any_uses-loop-formula-preserved : goal.any_uses-loop-formula-preserved
any_uses-loop-formula-preserved t c = λ s.
    c.loop-formula.invariant s
    ∙ one_more c.args.numbers.now s c.args.formulas.now c.loop-formula.formula-index c.formula-item.result c.loop-formula-test.true c.formula-item.is
    ∙ ap (λ b. b || some_used c.args.numbers.now s (drop (c.loop-formula.formula-index + 1) c.args.formulas.now)) (sym (c.uses_any.ensures s) ∙ c.if-uses_any.false)

pub any_uses-returns : goal.any_uses-returns
any_uses-returns t c = λ s. sym (c.loop-formula.invariant s ∙ none_left c.args.numbers.now s c.args.formulas.now c.loop-formula.formula-index c.loop-formula-test.false)

pub two_use-returns-then-uses_any : goal.two_use-returns-then-uses_any
two_use-returns-then-uses_any t c = λ s.
    c.if-uses_any.true
    ∙ ap (λ b. b || list_any (is_in c.args.numbers.now) (spec.lowered s c.args.second.now).uses) (sym c.if-uses_any.true ∙ c.uses_any.ensures s)
    ∙ sym (list_any-append (is_in c.args.numbers.now) (spec.lowered s c.args.first.now).uses (spec.lowered s c.args.second.now).uses)

pub two_use-returns-else-uses_any : goal.two_use-returns-else-uses_any
two_use-returns-else-uses_any t c = λ s.
    c.uses_any-else-uses_any.ensures s
    ∙ ap (λ b. b || list_any (is_in c.args.numbers.now) (spec.lowered s c.args.second.now).uses) (sym c.if-uses_any.false ∙ c.uses_any.ensures s)
    ∙ sym (list_any-append (is_in c.args.numbers.now) (spec.lowered s c.args.first.now).uses (spec.lowered s c.args.second.now).uses)

pub uses_any-returns-in-Prefix : goal.uses_any-returns-in-Prefix
uses_any-returns-in-Prefix t c = λ s.
    c.uses_any.ensures s
    ∙ ap (λ r. list_any (is_in c.args.numbers.now) (spec.lowered s r).uses) c.get.ensures
    ∙ ap (list_any (is_in c.args.numbers.now)) (sym (row.prefix s c.args.formula.now c.in-Prefix.field-0 c.in-Prefix.part c.in-Prefix.is))

pub uses_any-returns-in-Call : goal.uses_any-returns-in-Call
uses_any-returns-in-Call t c = λ s.
    c.uses_any-in-Call.ensures s
    ∙ ap (λ r. list_any (is_in c.args.numbers.now) (spec.lowered s r).uses) c.get-in-Call.ensures
    ∙ ap (list_any (is_in c.args.numbers.now)) (sym (row.call s c.args.formula.now c.in-Call.field-0 c.in-Call.part c.in-Call.is))

pub uses_any-returns-in-Inverse : goal.uses_any-returns-in-Inverse
uses_any-returns-in-Inverse t c = λ s.
    c.uses_any-in-Inverse.ensures s
    ∙ ap (λ r. list_any (is_in c.args.numbers.now) (spec.lowered s r).uses) c.get-in-Inverse.ensures
    ∙ ap (list_any (is_in c.args.numbers.now)) (sym (row.inverse s c.args.formula.now c.in-Inverse.part c.in-Inverse.is))

pub uses_any-returns-in-Quantifier : goal.uses_any-returns-in-Quantifier
uses_any-returns-in-Quantifier t c = λ s.
    c.uses_any-in-Quantifier.ensures s
    ∙ ap (λ r. list_any (is_in c.args.numbers.now) (spec.lowered s r).uses) c.get-in-Quantifier.ensures
    ∙ ap (list_any (is_in c.args.numbers.now)) (sym (row.quantifier s c.args.formula.now c.in-Quantifier.field-0 c.in-Quantifier.field-1 c.in-Quantifier.part c.in-Quantifier.is))

pub uses_any-returns-in-Operator : goal.uses_any-returns-in-Operator
uses_any-returns-in-Operator t c = λ s.
    c.two_use.ensures s
    ∙ ap₂ (λ a b. list_any (is_in c.args.numbers.now) ((spec.lowered s a).uses ++ (spec.lowered s b).uses)) c.get-in-Operator.ensures c.get-in-Operator-2.ensures
    ∙ ap (list_any (is_in c.args.numbers.now)) (sym (row.operator s c.args.formula.now c.in-Operator.field-0 c.in-Operator.first c.in-Operator.second c.in-Operator.is))

pub uses_any-returns-in-Binder : goal.uses_any-returns-in-Binder
uses_any-returns-in-Binder t c = λ s.
    c.two_use-in-Binder.ensures s
    ∙ ap₂ (λ a b. list_any (is_in c.args.numbers.now) ((spec.lowered s a).uses ++ (spec.lowered s b).uses)) c.get-in-Binder.ensures c.get-in-Binder-2.ensures
    ∙ ap (list_any (is_in c.args.numbers.now)) (sym (row.binder s c.args.formula.now c.in-Binder.field-0 c.in-Binder.field-1 c.in-Binder.field-2 c.in-Binder.first c.in-Binder.second c.in-Binder.is))

pub uses_any-returns-in-Comprehension : goal.uses_any-returns-in-Comprehension
uses_any-returns-in-Comprehension t c = λ s.
    c.two_use-in-Comprehension.ensures s
    ∙ ap₂ (λ a b. list_any (is_in c.args.numbers.now) ((spec.lowered s a).uses ++ (spec.lowered s b).uses)) c.get-in-Comprehension.ensures c.get-in-Comprehension-2.ensures
    ∙ ap (list_any (is_in c.args.numbers.now)) (sym (row.comprehension s c.args.formula.now c.in-Comprehension.field-0 c.in-Comprehension.first c.in-Comprehension.second c.in-Comprehension.is))

pub uses_any-returns-in-Builder : goal.uses_any-returns-in-Builder
uses_any-returns-in-Builder t c = λ s.
    c.two_use-in-Builder.ensures s
    ∙ ap₂ (λ a b. list_any (is_in c.args.numbers.now) ((spec.lowered s a).uses ++ (spec.lowered s b).uses)) c.get-in-Builder.ensures c.get-in-Builder-2.ensures
    ∙ ap (list_any (is_in c.args.numbers.now)) (sym (row.builder s c.args.formula.now c.in-Builder.field-0 c.in-Builder.first c.in-Builder.second c.in-Builder.is))

pub uses_any-returns-in-Extension : goal.uses_any-returns-in-Extension
uses_any-returns-in-Extension t c = λ s.
    c.any_uses.ensures s
    ∙ ap (λ ms. list_any (is_in c.args.numbers.now) (spec.all_uses (map (spec.lowered s) ms))) c.as_slice.ensures
    ∙ ap (list_any (is_in c.args.numbers.now)) (sym (row.extension s c.args.formula.now c.in-Extension.members c.in-Extension.is))

pub uses_any-returns-in-Partition : goal.uses_any-returns-in-Partition
uses_any-returns-in-Partition t c = λ s.
    c.any_uses-in-Partition.ensures s
    ∙ ap (λ ms. list_any (is_in c.args.numbers.now) (spec.all_uses (map (spec.lowered s) ms))) c.as_slice-in-Partition.ensures
    ∙ ap (list_any (is_in c.args.numbers.now)) (sym (row.partition s c.args.formula.now c.in-Partition.members c.in-Partition.is))
