use Rattle.std.proofs.Common.{refl}
use Rattle.eb_scoping.proofs.WalkLaws.{adds_new}
use Rattle.eb_scoping.proofs.contexts.reach.Goals as goal

pub returns : goal.returns
returns c = adds_new c.args.walk.now _ c.args.name c.in_ok-insert_name.ensures c.in_ok-push.ensures.items refl
