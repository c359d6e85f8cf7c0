use Rattle.eb_value.specs.steps.Merges.{second_of}
use Rattle.eb_value.specs.steps.Joins as step
use Rattle.eb_value.proofs.LoopLaws.{flat_map_on}
use Rattle.eb_value.proofs.products.ends.Goals as goal

pub loop-value-preserved : goal.loop-value-preserved
loop-value-preserved c =
    flat_map_on (λ v. step.ends_behind c.args.s.now (second_of v)) c.args.run.now c.loop-value.value-index c.value-item.result c.loop-value.all.items c.push_ends.new.all.items c.loop-value-test.true c.value-item.is c.loop-value.invariant c.in_ok-push_ends.ensures
