use Rattle.std.proofs.Common.{◌≡◌, ◌++◌, map, take}
use Rattle.eb_lowering.specs.Lowering as spec
use Rattle.eb_lowering.proofs.around.Around.enter.Given as goal

abbrev pub invariant-loop-leaf : goal.invariant-loop-leaf
invariant-loop-leaf l = l.self ≡ record { depth = l.initial.self.depth; bound = l.initial.self.bound ++ map (spec.place_of l.initial.self.depth) (take l.leaf-index l.leaves) }
