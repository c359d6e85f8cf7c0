use Rattle.std.proofs.Common.{map}
use Rattle.eb_value.specs.Values.{pair}
use Rattle.eb_value.proofs.LoopLaws.{flat_map_on}
use Rattle.eb_value.proofs.listing.pairs.Goals as goal

pub loop-first-preserved : goal.loop-first-preserved
loop-first-preserved c =
    flat_map_on (λ x. map (pair x) c.args.seconds.now) c.args.firsts.now c.loop-first.first-index c.first-item.result c.loop-first.all.items c.push_pairs.new.all.items c.loop-first-test.true c.first-item.is c.loop-first.invariant c.in_ok-push_pairs.ensures
