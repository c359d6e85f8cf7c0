use Rattle.eb_scoping.proofs.WalkLaws.{leads}
use Rattle.eb_scoping.proofs.contexts.lead_walk.Goals as goal

pub returns : goal.returns
returns c = λ t w. leads c.args.units.now c.args.from.now c.args.name.now c.args.walk.now c.reach.new.walk (c.context_extends.ensures c.if-not-context_extends.false) c.in_ok-reach.ensures w
