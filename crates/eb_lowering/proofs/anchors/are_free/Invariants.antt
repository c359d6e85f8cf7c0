use Rattle.std.proofs.Common.{◌≡◌, drop}
use Rattle.std.specs.List.{list_all}
use Rattle.eb_lowering.specs.Anchors as anchor
use Rattle.eb_lowering.proofs.anchors.are_free.Given as goal

abbrev pub invariant-loop-leaf : goal.invariant-loop-leaf
invariant-loop-leaf l = list_all (anchor.is_in l.free) (anchor.numbers_of l.leaves) ≡ list_all (anchor.is_in l.free) (anchor.numbers_of (drop l.leaf-index l.leaves))
