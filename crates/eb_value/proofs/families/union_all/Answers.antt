use Rattle.std.proofs.Common.{◌∙◌, ◌++◌, ap}
use Rattle.eb_value.specs.Comprehensions.{members}
use Rattle.eb_value.proofs.LoopLaws.{union_on}
use Rattle.eb_value.proofs.families.union_all.Goals as goal

pub loop-each-preserved : goal.loop-each-preserved
loop-each-preserved c =
    union_on members c.args.sets.now c.loop-each.each-index c.each-item.result c.loop-each.all.items c.push_copies.new.all.items c.loop-each-test.true c.each-item.is c.loop-each.invariant
    (c.in_ok-push_copies.ensures ∙ ap (λ xs. c.loop-each.all.items ++ xs) c.members_of.ensures)
