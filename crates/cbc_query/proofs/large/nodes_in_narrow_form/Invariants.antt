use Rattle.std.proofs.Common.{◌≡◌, ◌-◌, ◌^◌, min, map, length, take}
use Rattle.std.specs.List.{flat_map}
use Rattle.eb_term.specs.Nodes.{subterms}
use Rattle.eb_narrow.specs.Narrow.{narrow}
use Rattle.cbc_query.proofs.large.nodes_in_narrow_form.Given as goal

abbrev pub invariant-loop-term : goal.invariant-loop-term
invariant-loop-term l = l.nodes ≡ min (length (flat_map subterms (map narrow (take l.term-index l.terms)))) (2 ^ 64 - 1)
