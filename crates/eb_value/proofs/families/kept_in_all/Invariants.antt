use Rattle.std.proofs.Common.{◌≡◌, take, filter}
use Rattle.eb_value.specs.steps.Families as step
use Rattle.eb_value.proofs.families.kept_in_all.Given as goal

abbrev pub invariant-loop-value : goal.invariant-loop-value
invariant-loop-value l = l.all ≡ filter (step.in_all l.sets) (take l.value-index l.values)
