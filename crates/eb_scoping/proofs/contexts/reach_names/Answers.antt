use Rattle.std.proofs.Common.{◌≡◌, subst}
use Rattle.eb_scoping.specs.steps.Walking.{Adds}
use Rattle.eb_scoping.proofs.WalkLaws.{adds_name}
use Rattle.eb_scoping.proofs.contexts.reach_names.Goals as goal

pub loop-name-preserved : goal.loop-name-preserved
loop-name-preserved c = adds_name c.args.walk.now c.loop-name.walk c.reach.new.walk c.args.names.now c.loop-name.name-index c.name-item.result c.loop-name-test.true c.name-item.is c.loop-name.invariant
    (subst (λ z. Adds c.loop-name.walk c.reach.new.walk (λ q. z ≡ q)) c.as_str.ensures c.in_ok-reach.ensures)
