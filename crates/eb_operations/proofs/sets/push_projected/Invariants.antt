use Rattle.std.proofs.Common.{◌≡◌, ◌++◌, map, take}
use Rattle.eb_operations.specs.Operations as spec
use Rattle.eb_operations.proofs.sets.push_projected.Given as goal

abbrev pub invariant-loop-y : goal.invariant-loop-y
invariant-loop-y l = l.maplets.items ≡ l.initial.maplets.items ++ map (spec.maplet_of_projection l.side l.x) (take l.y-index l.seconds)
