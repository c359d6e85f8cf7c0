use Rattle.std.proofs.Common.{Contains, subst}
use Rattle.eb_scoping.specs.FreeNames.{names_of}
use Rattle.eb_scoping.specs.steps.Walking.{Adds}
use Rattle.eb_scoping.proofs.WalkLaws.{begins_walk, marks_of}
use Rattle.eb_scoping.proofs.contexts.reached.Goals as goal

pub returns : goal.returns
returns c = let us = c.args.units.now in let first = names_of c.args.machine.now.sees in let a = c.empty_walk-walk.result in let b = c.reach_names.new.walk in
    marks_of us c.args.machine.now c.requires c.search.new.walk c.marks_by_name.result
    (c.in_ok-search.ensures.walk first (begins_walk us first a b (Contains first) c.empty_walk-walk.ensures (λ q h. h) (λ q h. h)
    (subst (λ z. Adds a b (Contains (names_of z))) c.as_slice.ensures c.in_ok-reach_names.ensures)))
    (c.in_ok-search.ensures.ends c.in_ok-search.ensures.found) c.marks_by_name.ensures
