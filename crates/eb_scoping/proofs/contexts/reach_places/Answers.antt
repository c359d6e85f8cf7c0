use Rattle.eb_scoping.proofs.WalkLaws.{adds_place}
use Rattle.eb_scoping.proofs.contexts.reach_places.Goals as goal

pub loop-place-preserved : goal.loop-place-preserved
loop-place-preserved c = adds_place c.args.walk.now c.loop-place.walk c.reach_behind.new.walk c.args.units.now c.args.places.now c.loop-place.place-index c.unit_at.result.now c.loop-place-test.true c.unit_at.ensures
    (c.requires c.loop-place.place-index 0 c.loop-place-test.true) c.loop-place.invariant c.in_ok-reach_behind.ensures
