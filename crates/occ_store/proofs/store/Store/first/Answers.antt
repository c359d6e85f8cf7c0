use Rattle.std.proofs.Common.{subst, sym}
use Rattle.occ_store.specs.Stores.{IsFirst}
use Rattle.occ_store.proofs.FirstStores.{first_is}
use Rattle.occ_store.proofs.store.Store.first.Goals as goal

pub returns : goal.returns
returns c =
    subst (IsFirst c.args.scope.now c.args.choices.now) (sym c.in_ok-domains.ensures) (first_is c.integers_lie_within_bounds.ensures c.args.scope.now c.args.choices.now c.requires.integers)
