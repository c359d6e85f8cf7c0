use Rattle.std.proofs.Common.{◌≡◌, length, take}
use Rattle.std.specs.List.{flat_map}
use Rattle.eb_term.specs.Nodes.{subterms}
use Rattle.problem_nodes.specs.Aboves.{rows}
use Rattle.problem_nodes.specs.steps.Lists.{extended, made_at}
use Rattle.problem_nodes.proofs.lists.+walking.Given as goal

abbrev pub invariant-push_row-loop-place : goal.invariant-push_row-loop-place
invariant-push_row-loop-place l =
    l.lists ≡ extended l.initial.lists (flat_map subterms (take l.place l.terms)) (rows (made_at l.made) 0 (length l.initial.lists.terms) (take l.place l.terms))
