use Rattle.std.proofs.Common.{◌+◌, ◌*◌, drop}
use Rattle.std.specs.Prelude.{max}
use Rattle.eb_resolved.specs.declared.resolved.Resolved.{size-Resolved}
use Rattle.eb_typing.proofs.WalkLaws.{Walked}
use Rattle.eb_typing.proofs.walk.+walking.Given as goal

abbrev pub invariant-each-loop-member : goal.invariant-each-loop-member
invariant-each-loop-member l = Walked l.asked l.members (drop l.member-index l.members) l.initial.out l.out l.parts

-- three for each level, since a formula's parts are passed on by functions in between
abbrev pub decreases-walk : goal.decreases-walk
decreases-walk l = 3 * goal.size-walk l

abbrev pub decreases-one : goal.decreases-one
decreases-one l = 3 * size-Resolved l.part.now + 1

abbrev pub decreases-two : goal.decreases-two
decreases-two l = 3 * max (size-Resolved l.left.now) (size-Resolved l.right.now) + 1

abbrev pub decreases-bound_by : goal.decreases-bound_by
decreases-bound_by l = 3 * max (size-Resolved l.condition.now) (size-Resolved l.value.now) + 2

abbrev pub decreases-each : goal.decreases-each
decreases-each l = 3 * goal.size-each l + 1

abbrev pub decreases-all : goal.decreases-all
decreases-all l = 3 * goal.size-all l + 2
