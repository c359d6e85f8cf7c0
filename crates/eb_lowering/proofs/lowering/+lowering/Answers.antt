use Rattle.std.proofs.Common.{◌≡◌, ◌≤◌, refl, sym, subst, map, Some, IfOk, arith}
use Rattle.std.specs.Option.{option_copied}
use Rattle.eb_forms.specs.Widths.{bound_identifiers}
use Rattle.eb_resolved.specs.Resolving.{entries_from}
use Rattle.eb_term.specs.declared.operators.Binder.{Binder}
use Rattle.eb_term.specs.declared.operators.Binder.TheVariants as binder
use Rattle.narrow_terms.specs.Building as built
use Rattle.eb_lowering.specs.Lowering as spec
use Rattle.eb_lowering.specs.steps.Anchoring as anchoring
use Rattle.eb_lowering.specs.steps.Binding as step
use Rattle.eb_lowering.proofs.AnchorLaws.{largest_at}
use Rattle.eb_lowering.proofs.BindingLaws.{bound_more}
use Rattle.eb_lowering.proofs.LoweringLaws.{ranged}
use Rattle.eb_lowering.proofs.lowering.+lowering.Goals as goal

pub collected-returns-clause-term : goal.collected-returns-clause-term
collected-returns-clause-term t c =
    let s = c.args.setting.now in
    let p = c.args.condition.now in
    subst (λ z. IfOk c.bound_at.result (λ u. u ≡ z))
    (ranged s binder.Collect (spec.entry_numbers (entries_from c.args.first (bound_identifiers c.args.bound.now))) c.in_ok-numbers.numbers c.in_ok-ranges.ranges.items c.deref.result.now
    (anchoring.conjuncts_of s (Some p)) (spec.lowered s p).conjuncts (step.body_term s c.args.body) c.args.around.now
    c.in_ok-numbers.ensures (c.in_ok-ranges.ensures.reads s) refl c.deref.ensures.value)
    c.bound_at.ensures.term

pub comprehension-returns-clause-term : goal.comprehension-returns-clause-term
comprehension-returns-clause-term t c =
    let s = c.args.setting.now in
    let p = c.args.condition.now in
    let e = c.args.value.now in
    subst (λ z. IfOk c.bound_at.result (λ u. u ≡ z))
    (ranged s binder.Collect (spec.entry_numbers c.args.entries.now) c.in_ok-numbers.numbers c.in_ok-ranges.ranges.items c.deref.result.now
    (anchoring.conjuncts_of s (Some p)) (spec.lowered s p).conjuncts (λ w. step.guarded ((spec.lowered s p).term w) (built.extension ((spec.lowered s e).term w))) c.args.around.now
    c.in_ok-numbers.ensures (c.in_ok-ranges.ensures.reads s) refl c.deref.ensures.value)
    c.bound_at.ensures.term

pub quantified-returns-clause-term : goal.quantified-returns-clause-term
quantified-returns-clause-term t c =
    let s = c.args.setting.now in
    let p = spec.lowered s c.args.part.now in
    subst (λ z. IfOk c.bound_at.result (λ u. u ≡ z))
    (ranged s (spec.quantifier_binder c.args.quantifier) (spec.entry_numbers c.args.entries.now) c.in_ok-numbers.numbers c.in_ok-ranges.ranges.items c.deref.result.now
    (anchoring.conjuncts_of s (option_copied c.anchored.result)) (spec.anchors_of c.args.quantifier p) p.term c.args.around.now
    c.in_ok-numbers.ensures (c.in_ok-ranges.ensures.reads s) (c.anchored.ensures.reads s) c.deref.ensures.value)
    (subst (λ (o : Binder). IfOk c.bound_at.result (λ u. u ≡ spec.bind s o (map (anchoring.seen s) c.deref.result.now) p.term c.args.around.now)) c.quantifier_binder-binder.ensures c.bound_at.ensures.term)

pub inside-made_in-requires : goal.inside-made_in-requires
inside-made_in-requires t c =
    let rs = c.args.ranges.now in
    let r = c.range-item.result in
    let h : anchoring.size_in r ≤ anchoring.largest rs = subst (λ z. anchoring.size_in z ≤ anchoring.largest rs) (sym c.range-item.is) (largest_at rs c.loop-range.range-index r c.loop-range-test.true) in
    omega (arith, h)

pub inside-loop-range-preserved : goal.inside-loop-range-preserved
inside-loop-range-preserved t c =
    rw (c.in_ok-made_in.ensures.made)
    (bound_more c.args.setting.now (step.body_term c.args.setting.now c.args.body) c.args.ranges.now c.args.around.now c.loop-range.around c.made_in.new.around c.args.made.now c.loop-range.made
    (step.made_at c.args.setting.now c.loop-range.around c.range-item.result) c.loop-range.range-index c.range-item.result c.loop-range-test.true c.range-item.is c.loop-range.invariant refl c.in_ok-made_in.ensures.inside)
