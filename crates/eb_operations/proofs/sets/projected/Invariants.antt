use Rattle.std.proofs.Common.{◌≡◌, map, take}
use Rattle.std.specs.List.{flat_map}
use Rattle.eb_operations.specs.Operations as spec
use Rattle.eb_operations.proofs.sets.projected.Given as goal

abbrev pub invariant-loop-x : goal.invariant-loop-x
invariant-loop-x l = l.maplets.items ≡ flat_map (λ x. map (spec.maplet_of_projection l.side x) l.seconds) (take l.x-index l.firsts)
