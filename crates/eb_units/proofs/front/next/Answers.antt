use Rattle.eb_units.proofs.Places.{drop_next}
use Rattle.eb_units.proofs.front.next.Goals as goal

pub returns-then-at-len : goal.returns-then-at-len
returns-then-at-len c = drop_next c.args.tokens.now c.args.at
