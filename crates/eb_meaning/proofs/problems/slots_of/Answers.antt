use Rattle.std.proofs.Common.{◌∙◌, ap, refl, sym}
use Rattle.std.proofs.lemmas.List.{drop_more}
use Rattle.eb_value.specs.Canonical as canonical
use Rattle.eb_meaning.specs.Problems as spec
use Rattle.eb_meaning.proofs.CanonicalSlots.{one_more_slot}
use Rattle.eb_meaning.proofs.problems.slots_of.Goals as goal

pub new-at-requires-clause-bound : goal.new-at-requires-clause-bound
new-at-requires-clause-bound c = canonical.none

pub loop-definition-preserved : goal.loop-definition-preserved
loop-definition-preserved c =
    let rest = drop_more c.args.definitions.now c.loop-definition.definition-index c.definition-item.result c.loop-definition-test.true in
    let whole = c.loop-definition.invariant.0 ∙ ap (λ ds. spec.with_definitions c.args.scope.now c.loop-definition.slots ds) rest in (
      whole ∙ rw (c.in_ok-push.ensures.ok, c.in_ok-value.ensures.value, c.new-at.ensures, c.as_slice.ensures, sym c.definition-item.is) refl,
      rw c.in_ok-push.ensures.ok (one_more_slot _ _ c.loop-definition.invariant.1 c.in_ok-value.ensures.canonical),
    )
