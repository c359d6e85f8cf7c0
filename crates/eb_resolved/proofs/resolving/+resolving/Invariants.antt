use Rattle.std.proofs.Common.{drop}
use Rattle.eb_resolved.proofs.EachLaws.{IsReadUpTo}
use Rattle.eb_resolved.proofs.resolving.+resolving.Given as goal

abbrev pub invariant-each-loop-member : goal.invariant-each-loop-member
invariant-each-loop-member l = IsReadUpTo l.scope.entries l.members (drop l.member-index l.members) l.initial.names l.names l.parts
