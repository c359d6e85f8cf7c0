use Rattle.std.proofs.Common.{◌+◌, ◌*◌}
use Rattle.std.specs.Prelude.{max}
use Rattle.eb_resolved.specs.declared.resolved.Resolved.{size-Resolved}
use Rattle.eb_lowering.proofs.anchors.+anchors.Given as goal

-- two for each level, since the parts are passed on by a function in between
abbrev pub decreases-push_anchors : goal.decreases-push_anchors
decreases-push_anchors l = 2 * size-Resolved l.predicate.now

abbrev pub decreases-push_both : goal.decreases-push_both
decreases-push_both l = 2 * max (size-Resolved l.first.now) (size-Resolved l.second.now) + 1
