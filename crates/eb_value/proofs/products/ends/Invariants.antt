use Rattle.std.proofs.Common.{◌≡◌, take}
use Rattle.eb_value.specs.steps.Joins as step
use Rattle.eb_value.proofs.products.ends.Given as goal

abbrev pub invariant-loop-value : goal.invariant-loop-value
invariant-loop-value l = l.all.items ≡ step.ends l.s (take l.value-index l.run)
