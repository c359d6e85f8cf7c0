use Rattle.std.proofs.Common.{◌≡◌, take}
use Rattle.eb_value.specs.steps.Joins as step
use Rattle.eb_value.proofs.products.joins.Given as goal

abbrev pub invariant-loop-value : goal.invariant-loop-value
invariant-loop-value l = l.all.items ≡ step.joins l.join (take l.value-index l.r) l.s
