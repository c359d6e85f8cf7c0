use Rattle.std.proofs.Common.{[], ◌∷◌, get_or, subst}
use Rattle.eb_lower.specs.steps.Known.{Tells, ExtendsAt}
use Rattle.eb_lower.proofs.ReachLaws.{none_more, found_one, found_none}
use Rattle.eb_lower.proofs.known.reaches_one.Goals as goal

pub returns-then-branch-clause-walk : goal.returns-then-branch-clause-walk
returns-then-branch-clause-walk c = λ first w. c.in_ok-reaches_place.ensures.walk first (c.loop-place.invariant.walk first w)

pub returns-then-branch-clause-answer : goal.returns-then-branch-clause-answer
returns-then-branch-clause-answer c = λ from w. let us = c.args.units.now in let xs = c.args.places.now in let i = c.loop-place.place-index in
    found_one us from xs i c.loop-place-test.true (subst (λ z. Tells z (ExtendsAt us from (get_or xs i 0))) c.if-branch.true (c.in_ok-reaches_place.ensures.answer from (c.loop-place.invariant.walk (from ∷ []) w)))

pub loop-place-preserved : goal.loop-place-preserved
loop-place-preserved c = let us = c.args.units.now in let xs = c.args.places.now in let i = c.loop-place.place-index in record {
  walk = λ first w. c.in_ok-reaches_place.ensures.walk first (c.loop-place.invariant.walk first w);
  none = λ from w. none_more us from xs i c.loop-place-test.true (c.loop-place.invariant.none from w)
      (subst (λ z. Tells z (ExtendsAt us from (get_or xs i 0))) c.if-branch.false (c.in_ok-reaches_place.ensures.answer from (c.loop-place.invariant.walk (from ∷ []) w)));
}

pub returns-clause-answer : goal.returns-clause-answer
returns-clause-answer c = λ from w. found_none c.args.units.now from c.args.places.now c.loop-place.place-index c.loop-place-test.false (c.loop-place.invariant.none from w)
