use Rattle.narrow_terms.proofs.Copies.{same}
use Rattle.narrow_terms.proofs.shift.copied.Goals as goal

pub returns : goal.returns
returns c = rw (same 0 c.args.term.now) at c.shifted.ensures
