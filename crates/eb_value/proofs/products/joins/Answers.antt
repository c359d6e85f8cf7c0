use Rattle.eb_value.specs.Values.{layer}
use Rattle.eb_value.specs.steps.Joins as step
use Rattle.eb_value.proofs.LoopLaws.{flat_map_on}
use Rattle.eb_value.proofs.products.joins.Goals as goal

pub loop-value-preserved : goal.loop-value-preserved
loop-value-preserved c =
    flat_map_on (λ v. step.joins_in c.args.join c.args.s.now (layer v)) c.args.r.now c.loop-value.value-index c.value-item.result c.loop-value.all.items c.push_joins_of.new.all.items c.loop-value-test.true c.value-item.is c.loop-value.invariant c.in_ok-push_joins_of.ensures
