use Rattle.eb_value.specs.Canonical.{integer}
use Rattle.eb_term.proofs.term.Term.integer.Goals as goal

pub literal-requires : goal.literal-requires
literal-requires c = rw c.integer.ensures (integer _)
