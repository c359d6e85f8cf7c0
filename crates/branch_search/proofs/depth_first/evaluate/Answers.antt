use Rattle.std.proofs.Common.{◌≡◌, ◌∙◌, ap₂}
use Rattle.eb_meaning.specs.Problems.{slots_of}
use Rattle.occ_store.specs.Stores.{single_values}
use Rattle.branch_search.proofs.depth_first.evaluate.Goals as goal

pub returns-in-Some : goal.returns-in-Some
returns-in-Some c =
    let slots : c.as_slice-4.result.now ≡ slots_of c.args.scope.now c.args.problem.now.definitions (single_values c.args.store.now) =
    c.as_slice-4.ensures ∙ c.in_ok-slots.ensures.slots ∙ ap₂ (slots_of c.args.scope.now) c.as_slice.ensures (c.as_slice-2.ensures ∙ c.in_ok-values.ensures.values) in
    let at = rw c.in-Some.is at c.in_ok-fact.ensures in
    λ left. (c.requires.single, rw (slots, c.as_slice-3.ensures) at at)
