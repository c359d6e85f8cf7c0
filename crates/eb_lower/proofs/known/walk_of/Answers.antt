use Rattle.std.proofs.Common.{[], ◌∷◌}
use Rattle.eb_lower.proofs.ReachLaws.{walk_any}
use Rattle.eb_lower.proofs.known.walk_of.Goals as goal

pub returns : goal.returns
returns c = walk_any c.args.units.now (c.args.name.now ∷ []) c.walk_from.result c.walk_from.ensures
