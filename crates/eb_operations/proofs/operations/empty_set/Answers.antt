use Rattle.std.proofs.Common.{refl}
use Rattle.eb_value.specs.Canonical as canonical
use Rattle.eb_operations.proofs.operations.empty_set.Goals as goal

pub returns-clause-canonical : goal.returns-clause-canonical
returns-clause-canonical c = rw (c.set.ensures, c.new.ensures) (canonical.family refl canonical.none)
