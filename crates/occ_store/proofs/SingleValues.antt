-- The values of a store are integers, so they are canonical.
use Rattle.std.proofs.Common.{[], ◌∷◌}
use Rattle.eb_value.specs.Canonical.{AreCanonical, integer, none, more}
use Rattle.occ_store.specs.Stores.{Store, single_values}

pub are_canonical : (store : Store) → AreCanonical (single_values store)
are_canonical [] = none
are_canonical (d ∷ store) = more (integer d.lo) (are_canonical store)
