use Rattle.std.proofs.Common.{rules, ◌≡◌, sym, subst, Some, None}
use Rattle.std.specs.Prelude.{slice_get}
use Rattle.eb_term.specs.Nodes.{nodes_of}
use Rattle.occurrences.specs.Binding.{binds}
use Rattle.occurrences.specs.Occurrences as row
use Rattle.occurrences.proofs.BinderLaws.{stands_within, stands_beside}
use Rattle.occurrences.proofs.binders.+standing.Goals as goal

pub binder_types-returns-in-Definition : goal.binder_types-returns-in-Definition
binder_types-returns-in-Definition t c = subst (row.StandsInside c.args.nodes.now c.args.k) (sym c.new.ensures.items) (row.definition c.in-Definition.field-0 c.in-Definition.ensures)

pub binder_types-returns-in-Fact : goal.binder_types-returns-in-Fact
binder_types-returns-in-Fact t c = subst (row.StandsInside c.args.nodes.now c.args.k) (sym c.new-in-Fact.ensures.items) (row.fact c.in-Fact.field-0 c.in-Fact.ensures)

pub types_below-returns-in-None : goal.types_below-returns-in-None
types_below-returns-in-None t c =
    let there : slice_get (nodes_of c.args.nodes.now) c.args.number ≡ Some c.in-Some.term.now = search rules in
    let none : binds c.in-Some.term.now c.args.part ≡ None = search rules in
    stands_beside c.args.nodes.now c.args.number c.args.part c.in-Some.term.now c.in_ok-types.types.items there none c.in_ok-types.ensures

pub types_below-returns-in_ok-push-in-Some-2 : goal.types_below-returns-in_ok-push-in-Some-2
types_below-returns-in_ok-push-in-Some-2 t c =
    let there : slice_get (nodes_of c.args.nodes.now) c.args.number ≡ Some c.in-Some.term.now = search rules in
    let some : binds c.in-Some.term.now c.args.part ≡ Some c.in-Some-2.ty = search rules in
    let inside = stands_within c.args.nodes.now c.args.number c.args.part c.in-Some.term.now c.in-Some-2.ty c.in_ok-types.types.items there some c.in_ok-types.ensures in
    λ k below. subst (row.StandsInside c.args.nodes.now k) (sym c.in_ok-push-in-Some-2.ensures.items) (inside k below)
