use Rattle.std.proofs.Common.{◌+◌, ◌*◌}
use Rattle.std.specs.Prelude.{max}
use Rattle.eb_resolved.specs.declared.resolved.Resolved.{size-Resolved}
use Rattle.eb_lowering.proofs.anchors.+leaves.Given as goal

-- three for each level, since the parts are passed on by functions in between
abbrev pub decreases-push_leaves : goal.decreases-push_leaves
decreases-push_leaves l = 3 * size-Resolved l.formula.now

abbrev pub decreases-push_part : goal.decreases-push_part
decreases-push_part l = 3 * size-Resolved l.formula.now + 1

abbrev pub decreases-push_pair : goal.decreases-push_pair
decreases-push_pair l = 3 * max (size-Resolved l.first.now) (size-Resolved l.second.now) + 2
