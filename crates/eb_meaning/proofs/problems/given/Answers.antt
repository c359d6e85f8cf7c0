use Rattle.std.proofs.Common.{◌≡◌, ◌∙◌, ap, map, Some}
use Rattle.std.proofs.lemmas.List.{take_all}
use Rattle.eb_meaning.proofs.CanonicalSlots.{given_are_canonical}
use Rattle.eb_meaning.proofs.problems.given.Goals as goal

pub returns-clause-canonical : goal.returns-clause-canonical
returns-clause-canonical c =
    let is : c.loop-value.slots ≡ map (λ v. Some v) c.args.values.now = c.loop-value.invariant ∙ ap (λ vs. map (λ v. Some v) vs) (take_all c.loop-value.value-index c.args.values.now c.loop-value-test.false) in
    rw is (given_are_canonical c.args.values.now c.requires)
