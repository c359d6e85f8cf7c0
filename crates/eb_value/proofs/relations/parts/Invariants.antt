use Rattle.std.proofs.Common.{◌≡◌, take}
use Rattle.std.specs.List.{filter_map}
use Rattle.eb_value.specs.steps.Joins as step
use Rattle.eb_value.proofs.relations.parts.Given as goal

abbrev pub invariant-loop-value : goal.invariant-loop-value
invariant-loop-value l = l.all.items ≡ filter_map (step.part_of l.part) (take l.value-index l.r)
