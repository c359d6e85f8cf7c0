use Rattle.std.proofs.Common.{subst, sym}
use Rattle.eb_value.specs.Canonical.{AreCanonical}
use Rattle.occ_store.proofs.SingleValues.{are_canonical}
use Rattle.occ_store.proofs.store.Store.values.Goals as goal

pub returns-clause-canonical : goal.returns-clause-canonical
returns-clause-canonical c = subst AreCanonical (sym c.loop-domain.invariant) (are_canonical _)
