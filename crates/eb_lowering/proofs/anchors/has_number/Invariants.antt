use Rattle.std.proofs.Common.{◌≡◌, drop}
use Rattle.eb_lowering.specs.Anchors as anchor
use Rattle.eb_lowering.proofs.anchors.has_number.Given as goal

abbrev pub invariant-loop-leaf : goal.invariant-loop-leaf
invariant-loop-leaf l = anchor.is_in (anchor.numbers_of l.leaves) l.number ≡ anchor.is_in (anchor.numbers_of (drop l.leaf-index l.leaves)) l.number
