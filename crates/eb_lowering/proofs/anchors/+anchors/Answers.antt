use Rattle.std.proofs.Common.{◌∙◌, ap, ap₂, sym, subst, ◌++◌}
use Rattle.narrow_terms.specs.Building as built
use Rattle.eb_lowering.specs.Lowering as spec
use Rattle.eb_lowering.specs.steps.Anchoring.{Anchors}
use Rattle.eb_lowering.proofs.AnchorLaws.{and_then, ends, of_conjunction, of_membership}
use Rattle.eb_lowering.proofs.LoweredRows as row
use Rattle.eb_lowering.proofs.anchors.+anchors.Goals as goal

pub push_anchors-returns-in_ok-goes_on-in-Operator-clause-reads : goal.push_anchors-returns-in_ok-goes_on-in-Operator-clause-reads
push_anchors-returns-in_ok-goes_on-in-Operator-clause-reads t c = λ s.
    let a = spec.lowered s c.in-Operator.first in
    let b = spec.lowered s c.in-Operator.second in
    subst (λ cs. Anchors s cs c.args.free.now c.push_both.new.free c.args.ranges.now.items c.push_both.new.ranges.items c.in_ok-goes_on-in-Operator.goes_on)
    (ap₂ (λ x y. (spec.lowered s x).conjuncts ++ (spec.lowered s y).conjuncts) c.get.ensures c.get-then-is_conjunction.ensures
    ∙ sym (of_conjunction c.in-Operator.operator (λ w. built.operation c.in-Operator.operator (a.term w) (b.term w)) a b (sym c.is_conjunction.ensures ∙ c.if-is_conjunction.true))
    ∙ sym (ap (λ l. l.conjuncts) (row.operator s c.args.predicate.now c.in-Operator.operator c.in-Operator.first c.in-Operator.second c.in-Operator.is)))
    (c.in_ok-goes_on-in-Operator.ensures.reads s)

pub push_anchors-returns-in_ok-goes_on-in-Operator-2-clause-reads : goal.push_anchors-returns-in_ok-goes_on-in-Operator-2-clause-reads
push_anchors-returns-in_ok-goes_on-in-Operator-2-clause-reads t c = λ s.
    let a = spec.lowered s c.in-Operator.first in
    let b = spec.lowered s c.in-Operator.second in
    subst (λ cs. Anchors s cs c.args.free.now c.push_anchor.new.free c.args.ranges.now.items c.push_anchor.new.ranges.items c.in_ok-goes_on-in-Operator-2.goes_on)
    (ap₂ (λ x y. spec.membership (spec.lowered s x) (spec.lowered s y)) c.get-then-is_membership.ensures c.get-then-is_membership-2.ensures
    ∙ sym (of_membership c.in-Operator.operator (λ w. built.operation c.in-Operator.operator (a.term w) (b.term w)) a b (sym c.is_membership.ensures ∙ c.if-is_membership.true))
    ∙ sym (ap (λ l. l.conjuncts) (row.operator s c.args.predicate.now c.in-Operator.operator c.in-Operator.first c.in-Operator.second c.in-Operator.is)))
    (c.in_ok-goes_on-in-Operator-2.ensures.reads s)

pub push_both-returns-then-not-goes_on-clause-reads : goal.push_both-returns-then-not-goes_on-clause-reads
push_both-returns-then-not-goes_on-clause-reads t c = λ s.
    ends s (spec.lowered s c.args.first.now).conjuncts (spec.lowered s c.args.second.now).conjuncts c.args.free.now c.push_anchors.new.free c.args.ranges.now.items c.push_anchors.new.ranges.items
    (subst (λ b. Anchors s (spec.lowered s c.args.first.now).conjuncts c.args.free.now c.push_anchors.new.free c.args.ranges.now.items c.push_anchors.new.ranges.items b) c.if-not-goes_on.true (c.in_ok-goes_on.ensures.reads s))

pub push_both-returns-clause-reads : goal.push_both-returns-clause-reads
push_both-returns-clause-reads t c = λ s.
    and_then s (spec.lowered s c.args.first.now).conjuncts (spec.lowered s c.args.second.now).conjuncts c.args.free.now c.push_anchors.new.free c.push_anchors-2.new.free c.args.ranges.now.items c.push_anchors.new.ranges.items c.push_anchors-2.new.ranges.items c.in_ok-goes_on-2.goes_on
    (subst (λ b. Anchors s (spec.lowered s c.args.first.now).conjuncts c.args.free.now c.push_anchors.new.free c.args.ranges.now.items c.push_anchors.new.ranges.items b) c.if-not-goes_on.false (c.in_ok-goes_on.ensures.reads s))
    (c.in_ok-goes_on-2.ensures.reads s)
