use Rattle.eb_value.specs.Canonical.{pair}
use Rattle.eb_operations.proofs.operations.maplet.Goals as goal

pub returns-clause-canonical : goal.returns-clause-canonical
returns-clause-canonical c = rw (c.in_ok-pair.ensures, c.in_ok-first.ensures, c.in_ok-second.ensures) (pair c.requires.first c.requires.second)
