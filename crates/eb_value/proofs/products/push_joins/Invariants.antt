use Rattle.std.proofs.Common.{◌≡◌, ◌++◌, take}
use Rattle.std.specs.List.{filter_map}
use Rattle.eb_value.specs.steps.Joins as step
use Rattle.eb_value.proofs.products.push_joins.Given as goal

abbrev pub invariant-loop-other : goal.invariant-loop-other
invariant-loop-other l = l.all.items ≡ l.initial.all.items ++ filter_map (step.join_with l.join l.x l.y) (take l.other-index l.others)
