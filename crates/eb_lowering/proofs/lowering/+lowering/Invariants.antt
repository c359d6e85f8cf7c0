use Rattle.std.proofs.Common.{◌≡◌, ◌+◌, ◌*◌, map, take, drop}
use Rattle.std.specs.Prelude.{max}
use Rattle.eb_resolved.specs.declared.resolved.Resolved.{size-Resolved}
use Rattle.eb_lowering.specs.Lowering as spec
use Rattle.eb_lowering.specs.steps.Anchoring as anchoring
use Rattle.eb_lowering.specs.steps.Binding as step
use Rattle.eb_lowering.proofs.BindingLaws.{BoundUpTo}
use Rattle.eb_lowering.proofs.lowering.+lowering.Given as goal

abbrev pub invariant-terms_at-loop-formula : goal.invariant-terms_at-loop-formula
invariant-terms_at-loop-formula l = record {
  terms : l.terms ≡ map (λ x. x.term l.initial.around) (map (spec.lowered l.setting) (take l.formula-index l.formulas));
  same : l.around ≡ l.initial.around;
}

abbrev pub invariant-inside-loop-range : goal.invariant-inside-loop-range
invariant-inside-loop-range l = BoundUpTo l.setting (step.body_term l.setting l.body) l.ranges (drop l.range-index l.ranges) l.initial.around l.around l.initial.made l.made

-- seven for each level, since a formula's parts are passed on by functions in between
abbrev pub decreases-term_at : goal.decreases-term_at
decreases-term_at l = 7 * size-Resolved l.formula.now

abbrev pub decreases-one : goal.decreases-one
decreases-one l = 7 * size-Resolved l.part.now + 1

abbrev pub decreases-two : goal.decreases-two
decreases-two l = 7 * max (size-Resolved l.left.now) (size-Resolved l.right.now) + 1

abbrev pub decreases-terms_at : goal.decreases-terms_at
decreases-terms_at l = 7 * goal.size-terms_at l + 1

abbrev pub decreases-row : goal.decreases-row
decreases-row l = 7 * goal.size-row l + 2

abbrev pub decreases-pairs_at : goal.decreases-pairs_at
decreases-pairs_at l = 7 * size-Resolved l.value.now + 1

abbrev pub decreases-made_at : goal.decreases-made_at
decreases-made_at l = 7 * anchoring.size_in l.range.now + 1

abbrev pub decreases-made_in : goal.decreases-made_in
decreases-made_in l = 7 * anchoring.size_in l.range.now + 2

abbrev pub decreases-body_at : goal.decreases-body_at
decreases-body_at l = 7 * step.body_size l.body + 2

abbrev pub decreases-inside : goal.decreases-inside
decreases-inside l = 7 * max (anchoring.largest l.ranges.now) (step.body_size l.body) + 3

abbrev pub decreases-bound_at : goal.decreases-bound_at
decreases-bound_at l = 7 * max (anchoring.largest l.ranges.now) (step.body_size l.body) + 4

abbrev pub decreases-collected : goal.decreases-collected
decreases-collected l = 7 * max (size-Resolved l.condition.now) (step.body_size l.body) + 5

abbrev pub decreases-quantified : goal.decreases-quantified
decreases-quantified l = 7 * size-Resolved l.part.now + 5

abbrev pub decreases-comprehension : goal.decreases-comprehension
decreases-comprehension l = 7 * max (size-Resolved l.condition.now) (size-Resolved l.value.now) + 5

abbrev pub decreases-gathered_at : goal.decreases-gathered_at
decreases-gathered_at l = 7 * max (size-Resolved l.condition.now) (size-Resolved l.value.now) + 6
