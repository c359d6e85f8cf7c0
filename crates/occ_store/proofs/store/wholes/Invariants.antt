use Rattle.std.proofs.Common.{◌≡◌, take}
use Rattle.occ_store.specs.Stores.{first_store}
use Rattle.occ_store.proofs.store.wholes.Given as goal

abbrev pub invariant-loop-choice : goal.invariant-loop-choice
invariant-loop-choice l = l.domains.items ≡ first_store l.scope (take l._choice-index l.choices)
