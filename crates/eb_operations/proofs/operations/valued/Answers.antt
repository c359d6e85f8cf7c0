use Rattle.eb_value.specs.Canonical.{integer}
use Rattle.eb_operations.proofs.operations.valued.Goals as goal

pub returns-in-Some-clause-canonical : goal.returns-in-Some-clause-canonical
returns-in-Some-clause-canonical c = rw c.integer.ensures (integer _)
