use Rattle.std.proofs.Common.{◌≡◌, take}
use Rattle.eb_lowering.specs.Anchors as anchor
use Rattle.eb_lowering.proofs.anchors.without.Given as goal

abbrev pub invariant-loop-number : goal.invariant-loop-number
invariant-loop-number l = l.left ≡ anchor.without (take l.number-index l.free) l.leaves
