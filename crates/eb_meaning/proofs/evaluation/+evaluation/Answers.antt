use Rattle.std.proofs.Common.{rules, Some, map, ◌≡◌, ◌∙◌, sym, true, false, [], ap}
use Rattle.std.proofs.lemmas.List.{drop_more}
use Rattle.eb_value.specs.Canonical as canonical
use Rattle.eb_value.specs.Canonical.{AreCanonical}
use Rattle.eb_meaning.specs.Meaning as spec
use Rattle.eb_meaning.specs.steps.Evaluating as step
use Rattle.eb_meaning.proofs.CanonicalSlots.{item_is_canonical, joined}
use Rattle.eb_meaning.proofs.Forms.{product_has_all, arrow_has_all}
use Rattle.eb_meaning.proofs.Heads.{operator_is, over_is, all_is}
use Rattle.eb_meaning.proofs.Instances.{none_yet, next_one}
use Rattle.eb_meaning.proofs.Relations.{given_of, relation_is}
use Rattle.eb_meaning.proofs.evaluation.+evaluation.Goals as goal

pub side_covered-all_at-requires : goal.side_covered-all_at-requires
side_covered-all_at-requires t c = (search rules, canonical.none)

pub side_covered-set_of_side-requires : goal.side_covered-set_of_side-requires
side_covered-set_of_side-requires t c = item_is_canonical _ _ _ c.requires c.loop-relation-test.true c.relation-item.is

pub side_covered-covers-requires : goal.side_covered-covers-requires
side_covered-covers-requires t c = (
  search rules,
  (
    c.in_ok-set.ensures.canonical,
    given_of (spec.meaning c.args.scope.now c.args.form.now) c.args.at.now [] _ (sym c.in_ok-all_at.ensures ∙ c.in-Some.is),
  ),
)

pub powers_at-all_at-requires : goal.powers_at-all_at-requires
powers_at-all_at-requires t c = (search rules, canonical.none)

pub powers_at-members-requires : goal.powers_at-members-requires
powers_at-members-requires t c = item_is_canonical _ _ _ c.requires c.loop-value-test.true c.value-item.is

pub exists_at-truth_inside-requires : goal.exists_at-truth_inside-requires
exists_at-truth_inside-requires t c = (search rules, (c.loop-value.invariant.1, (rw (c.loop-value.invariant.1, sym c.bound.ensures.bound) c.bound.ensures.canonical, item_is_canonical _ _ _ c.requires c.loop-value-test.true c.value-item.is)))

pub for_all_at-truth_inside-requires : goal.for_all_at-truth_inside-requires
for_all_at-truth_inside-requires t c = (search rules, (c.loop-value.invariant.1, (rw (c.loop-value.invariant.1, sym c.bound.ensures.bound) c.bound.ensures.canonical, item_is_canonical _ _ _ c.requires c.loop-value-test.true c.value-item.is)))

pub instances-value_inside-requires : goal.instances-value_inside-requires
instances-value_inside-requires t c = (search rules, (c.loop-value.invariant.2, (rw (c.loop-value.invariant.2, sym c.bound.ensures.bound) c.bound.ensures.canonical, item_is_canonical _ _ _ c.requires c.loop-value-test.true c.value-item.is)))

pub instances-loop-value-init : goal.instances-loop-value-init
instances-loop-value-init t c = (rw c.new-parts.ensures.items (none_yet _), rw c.new-parts.ensures.items canonical.none, c.in_ok-bound.ensures ∙ c.bound.ensures.bound)

pub values_at-loop-part-init : goal.values_at-loop-part-init
values_at-loop-part-init t c = (rw c.new-values.ensures.items (none_yet _), rw c.new-values.ensures.items canonical.none)

pub relation-has-requires : goal.relation-has-requires
relation-has-requires t c = (search rules, rw c.from_ref.ensures.value (canonical.more c.requires canonical.none))

pub relation-has-requires-in-NotMemberOf : goal.relation-has-requires-in-NotMemberOf
relation-has-requires-in-NotMemberOf t c = (search rules, rw c.from_ref-in-NotMemberOf.ensures.value (canonical.more c.requires canonical.none))

pub all_at-returns-in_ok-second-in-Operator : goal.all_at-returns-in_ok-second-in-Operator
all_at-returns-in_ok-second-in-Operator t c =
    let o = c.in-Operator.operator in
    let e : spec.is_product o ≡ true = search rules in
    let F = spec.meaning c.args.scope.now c.in-Binary.first in
    let G = spec.meaning c.args.scope.now c.in-Binary.second in
    let is = operator_is c.args.scope.now c.args.form.now _ _ _ o c.in-Binary.is c.in-Operator.is in
    let law = product_has_all o e c.args.at.now F G c.args.range.now in
    let all = ap (λ m. step.has_all m c.args.at.now c.args.range.now) is ∙ law in
    c.both_given.ensures ∙ rw (c.in_ok-first-in-Operator.ensures, c.in_ok-second-in-Operator.ensures, c.are_pairs.ensures, c.get-then-is_product.ensures, c.get-then-is_product-2.ensures) (sym all)

pub all_at-returns-in_ok-are_arrows-in-Operator : goal.all_at-returns-in_ok-are_arrows-in-Operator
all_at-returns-in_ok-are_arrows-in-Operator t c =
    let o = c.in-Operator.operator in
    let p : spec.is_product o ≡ false = search rules in
    let a : spec.is_arrow o ≡ true = search rules in
    let F = spec.meaning c.args.scope.now c.in-Binary.first in
    let G = spec.meaning c.args.scope.now c.in-Binary.second in
    let is = operator_is c.args.scope.now c.args.form.now _ _ _ o c.in-Binary.is c.in-Operator.is in
    let law = arrow_has_all o p a c.args.at.now F G c.args.range.now in
    let all = ap (λ m. step.has_all m c.args.at.now c.args.range.now) is ∙ law in
    c.both_given-then-is_arrow.ensures ∙ rw (c.in_ok-first-in-Operator-2.ensures, c.in_ok-second-in-Operator-2.ensures, c.in_ok-are_arrows-in-Operator.ensures, c.get-then-is_arrow.ensures, c.get-then-is_arrow-2.ensures) (sym all)

pub instances-loop-value-preserved : goal.instances-loop-value-preserved
instances-loop-value-preserved t c =
    let rest = drop_more c.args.range.now c.loop-value.value-index c.value-item.result c.loop-value-test.true in
    let is : (spec.meaning c.args.scope.now c.args.body.now).value (spec.inside c.args.at.now c.value-item.result) ≡ Some c.in-Some.part = sym c.in_ok-part.ensures.value ∙ c.in-Some.is in
    let all = next_one (λ v. (spec.meaning c.args.scope.now c.args.body.now).value (spec.inside c.args.at.now v)) _ c.loop-value.parts.items _ _ _ c.in-Some.part c.loop-value.invariant.0 rest (rw (sym c.value-item.is) is) in (
      rw c.in_ok-push-in-Some.ensures.items all,
      rw c.in_ok-push-in-Some.ensures.items (joined _ _ c.loop-value.invariant.1 (canonical.more (rw c.in-Some.is at c.in_ok-part.ensures.canonical) canonical.none)),
      c.in_ok-part.ensures.bound ∙ c.loop-value.invariant.2,
    )

pub truth_at-returns-in-Some : goal.truth_at-returns-in-Some
truth_at-returns-in-Some t c =
    let is = operator_is c.args.scope.now c.args.term.now _ _ _ _ c.in-Binary.is c.in-Operator.is in
    let A = spec.meaning c.args.scope.now c.in-Binary.left in
    let v : A.value c.args.at.now ≡ Some c.get-in-Some-2.result.now = search rules in
    let e = ap (λ m. m.truth c.args.at.now) is ∙ relation_is c.in-Operator.operator c.in-Equal.is c.args.at.now A (spec.meaning c.args.scope.now c.in-Binary.right) c.get-in-Some-2.result.now v in
    rw (e, sym c.get-in-Some.ensures) c.relation.ensures

pub truth_inside-inside-inside-requires : goal.truth_inside-inside-inside-requires
truth_inside-inside-inside-requires t c = rw (c.as_slice.ensures, c.in_ok-push.ensures.ok)
    (joined _ _ c.requires.canonical (canonical.more (rw c.in_ok-copied.ensures c.requires.value) canonical.none))

pub value_inside-inside-inside-requires : goal.value_inside-inside-inside-requires
value_inside-inside-inside-requires t c = rw (c.as_slice.ensures, c.in_ok-push.ensures.ok)
    (joined _ _ c.requires.canonical (canonical.more (rw c.in_ok-copied.ensures c.requires.value) canonical.none))

pub value_at-returns-in-Some-2-clause-value : goal.value_at-returns-in-Some-2-clause-value
value_at-returns-in-Some-2-clause-value t c =
    let is = over_is c.args.scope.now c.args.term.now _ _ _ _ c.in-Over.is c.in-Collect.is in
    let v : (spec.meaning c.args.scope.now c.in-Over.range).value c.args.at.now ≡ Some c.get-in-Some-2-3.result.now = search rules in
    let e = ap (λ m. m.value c.args.at.now) is in
    rw (e, v, sym c.members.ensures.members, sym c.get-in-Some-2-2.ensures) c.collected_at.ensures.value

pub value_at-returns-in_ok-range-in-Collect-binder-clause-value : goal.value_at-returns-in_ok-range-in-Collect-binder-clause-value
value_at-returns-in_ok-range-in-Collect-binder-clause-value t c =
    let is = all_is c.args.scope.now c.args.term.now _ _ _ _ c.in-All.is c.in-Collect-binder.is in
    let e = ap (λ m. m.value c.args.at.now) is in
    rw e (rw (c.as_slice-in-Collect-binder.ensures, c.in_ok-range-in-Collect-binder.ensures.values, c.get-in-Collect-binder.ensures, c.get-in-Collect-binder-2.ensures) at c.collected_at-in-Collect-binder.ensures.value)

pub values_at-loop-part-preserved : goal.values_at-loop-part-preserved
values_at-loop-part-preserved t c =
    let rest = ap (λ ms. map (spec.meaning c.args.scope.now) ms) (drop_more c.args.parts.now c.loop-part.part-index c.part-item.result c.loop-part-test.true) in
    let is : (spec.meaning c.args.scope.now c.part-item.result).value c.args.at.now ≡ Some c.in-Some.value = sym c.in_ok-value.ensures.value ∙ c.in-Some.is in
    let all = next_one (λ m. m.value c.args.at.now) _ c.loop-part.values.items _ _ _ c.in-Some.value c.loop-part.invariant.0 rest (rw (sym c.part-item.is) is) in (
      rw c.in_ok-push-in-Some.ensures.items all,
      rw c.in_ok-push-in-Some.ensures.items (joined _ _ c.loop-part.invariant.1 (canonical.more (rw c.in-Some.is at c.in_ok-value.ensures.canonical) canonical.none)),
    )
