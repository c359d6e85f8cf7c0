use Rattle.eb_value.specs.Canonical as canonical
use Rattle.eb_operations.proofs.operations.bool_of.Goals as goal

pub returns-in-True-clause-canonical : goal.returns-in-True-clause-canonical
returns-in-True-clause-canonical c = rw c.truth.ensures (canonical.truth _)

pub returns-in-False-clause-canonical : goal.returns-in-False-clause-canonical
returns-in-False-clause-canonical c = rw c.truth-in-False.ensures (canonical.truth _)
