use Rattle.std.proofs.Common.{◌≡◌, take}
use Rattle.occ_store.specs.Stores.{single_values}
use Rattle.occ_store.proofs.store.Store.values.Given as goal

abbrev pub invariant-loop-domain : goal.invariant-loop-domain
invariant-loop-domain l = l.values ≡ single_values (take l.domain-index l.self)
