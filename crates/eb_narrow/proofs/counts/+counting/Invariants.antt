use Rattle.std.proofs.Common.{◌≡◌, take, drop}
use Rattle.eb_narrow.specs.steps.Counting.{capped, each_term, partition_from, partition}
use Rattle.eb_narrow.proofs.counts.+counting.Given as goal

abbrev pub invariant-all_nodes-loop-term : goal.invariant-all_nodes-loop-term
invariant-all_nodes-loop-term l = l.all ≡ capped (each_term capped (take l.term-index l.terms))

abbrev pub invariant-partition-loop-term : goal.invariant-partition-loop-term
invariant-partition-loop-term l = partition_from capped l.parts (each_term capped (drop l.term-index l.terms)) ≡ partition capped (each_term capped l.terms)
