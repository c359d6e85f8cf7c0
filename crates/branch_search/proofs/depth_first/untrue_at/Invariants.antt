use Rattle.std.proofs.Common.{◌≡◌, drop}
use Rattle.std.specs.List.{list_all}
use Rattle.eb_meaning.specs.Truths.{is_true}
use Rattle.eb_meaning.specs.Problems.{fact_at}
use Rattle.branch_search.proofs.depth_first.untrue_at.Given as goal

abbrev pub invariant-loop-k : goal.invariant-loop-k
invariant-loop-k l = list_all (λ fact. is_true (fact_at l.scope l.slots fact)) l.facts ≡ list_all (λ fact. is_true (fact_at l.scope l.slots fact)) (drop l.k l.facts)
