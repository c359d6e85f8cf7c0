use Rattle.std.proofs.Common.{◌≡◌, map, take}
use Rattle.eb_narrow.specs.Narrow.{narrow}
use Rattle.cbc_query.proofs.problem.facts_of.Given as goal

abbrev pub invariant-loop-term : goal.invariant-loop-term
invariant-loop-term l = l.facts ≡ map narrow (take l.term-index l.terms)
