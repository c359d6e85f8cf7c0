use Rattle.std.proofs.Common.{length, ◌+◌, ◌*◌}
use Rattle.tree_checker.specs.Trees.{facts_of}
use Rattle.branch_search.specs.steps.Going.{IsGoing}
use Rattle.branch_search.proofs.depth_first.close.Given as goal

abbrev pub invariant-loop-store : goal.invariant-loop-store
invariant-loop-store l = IsGoing (facts_of l.scope l.problem) l.fn.first l.budget l.boxes l.lines.items l.left l.gave_up

abbrev pub decreases-loop-store : goal.decreases-loop-store
decreases-loop-store l = 2 * l.left + length l.boxes
