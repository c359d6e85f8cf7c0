use Rattle.std.proofs.Common.{◌≡◌, rules}
use Rattle.std.specs.Prelude.{Some, None}
use Rattle.type_equations.specs.declared.marks.Mark.TheVariants.{Begun}
use Rattle.type_equations.specs.steps.Settling.{unsettled, mark_of, mark_at}
use Rattle.type_equations.specs.Stores.{entry_at}
use Rattle.type_equations.proofs.SettleLaws.{is_top, settles_top, deepens, circular}
use Rattle.type_equations.proofs.DepthLaws.{deep_next, deep_top}
use Rattle.type_equations.proofs.settling.visit.Goals as goal

pub returns-then-eq-clause-way : goal.returns-then-eq-clause-way
returns-then-eq-clause-way c =
    let next : unsettled c.args.marks.now (entry_at c.args.store.now c.args.number) ≡ Some c.in-Some.part = search rules in
    let begun : mark_at c.args.marks.now c.in-Some.part ≡ Begun = search rules in
    circular c.args.store.now c.args.marks.now c.args.path.now.items c.args.number c.in-Some.part c.requires.placed c.requires.way next begun

pub returns-in-None-clause-way : goal.returns-in-None-clause-way
returns-in-None-clause-way c =
    let last : unsettled c.args.marks.now (entry_at c.args.store.now c.args.number) ≡ None = search rules in
    let at : c.settled-mark.result ≡ mark_of c.args.marks.now (entry_at c.args.store.now c.args.number) = search rules in
    search (rules, settles_top c.args.store.now c.args.marks.now c.args.path.now.items c.args.number c.settled-mark.result (is_top c.args.store.now c.args.marks.now c.args.path.now.items c.args.number c.settled-mark.result c.requires.way last at))

pub returns-in-None-clause-deep : goal.returns-in-None-clause-deep
returns-in-None-clause-deep c =
    let last : unsettled c.args.marks.now (entry_at c.args.store.now c.args.number) ≡ None = search rules in
    let at : c.settled-mark.result ≡ mark_of c.args.marks.now (entry_at c.args.store.now c.args.number) = search rules in
    search (rules, deep_top c.args.store.now c.args.marks.now c.args.depths.now c.args.path.now.items c.args.number c.settled-mark.result (is_top c.args.store.now c.args.marks.now c.args.path.now.items c.args.number c.settled-mark.result c.requires.way last at) c.requires.deep)

pub returns-in_ok-push-in-Some-2-clause-way : goal.returns-in_ok-push-in-Some-2-clause-way
returns-in_ok-push-in-Some-2-clause-way c =
    let next : unsettled c.args.marks.now (entry_at c.args.store.now c.args.number) ≡ Some c.in-Some.part = search rules in
    let apart : mark_at c.args.marks.now c.in-Some.part ≡ Begun → ⊥ = search rules in
    search (rules, deepens c.args.store.now c.args.marks.now c.args.path.now.items c.args.number c.in-Some.part c.requires.placed c.requires.way next apart)

pub returns-in_ok-push-in-Some-2-clause-deep : goal.returns-in_ok-push-in-Some-2-clause-deep
returns-in_ok-push-in-Some-2-clause-deep c =
    let next : unsettled c.args.marks.now (entry_at c.args.store.now c.args.number) ≡ Some c.in-Some.part = search rules in
    search (rules, deep_next c.args.store.now c.args.marks.now c.args.depths.now c.args.path.now.items c.args.number c.in-Some.part c.requires.placed c.requires.way next c.requires.deep)
