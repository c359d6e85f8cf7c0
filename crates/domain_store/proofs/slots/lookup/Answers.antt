use Rattle.std.proofs.Common.{subst}
use Rattle.domain_store.specs.steps.Rows.{IsRow}
use Rattle.domain_store.proofs.PlaceLaws.{row_there, row_within, found_there, free_there, free_past}
use Rattle.domain_store.proofs.slots.lookup.Goals as goal

pub search-requires-clause-within : goal.search-requires-clause-within
search-requires-clause-within c =
    rw c.as_slice.ensures (row_within c.args.keys.now c.args.number c.in-Some.row.now
    (subst (IsRow c.args.keys.now c.args.number) (row_there c.args.rows.now c.args.number c.in-Some.row.now c.in-Some.ensures) (c.requires.rows.row c.args.number)))

pub search-requires-clause-ascending : goal.search-requires-clause-ascending
search-requires-clause-ascending c =
    rw c.as_slice.ensures (subst (IsRow c.args.keys.now c.args.number) (row_there c.args.rows.now c.args.number c.in-Some.row.now c.in-Some.ensures) (c.requires.rows.row c.args.number)).ascending

pub returns-in-Some-clause-found : goal.returns-in-Some-clause-found
returns-in-Some-clause-found c =
    found_there (record { reflexive = c.order_is_total.ensures.reflexive; exact = c.order_is_total.ensures.exact; reversed = c.order_is_total.ensures.reversed; transitive = c.order_is_total.ensures.transitive })
    c.args.keys.now c.args.rows.now c.requires.rows c.args.number c.in-Some.row.now c.args.bound.now c.in-Some.ensures c.search.result (rw c.as_slice.ensures at c.search.ensures.found)

pub returns-in-Some-clause-place : goal.returns-in-Some-clause-place
returns-in-Some-clause-place c =
    free_there (record { reflexive = c.order_is_total.ensures.reflexive; exact = c.order_is_total.ensures.exact; reversed = c.order_is_total.ensures.reversed; transitive = c.order_is_total.ensures.transitive })
    c.args.keys.now c.args.rows.now c.requires.rows c.args.number c.in-Some.row.now c.args.bound.now c.in-Some.ensures c.search.result (rw c.as_slice.ensures at c.search.ensures.place)

pub returns-in-None-clause-place : goal.returns-in-None-clause-place
returns-in-None-clause-place c =
    free_past (record { reflexive = c.order_is_total.ensures.reflexive; exact = c.order_is_total.ensures.exact; reversed = c.order_is_total.ensures.reversed; transitive = c.order_is_total.ensures.transitive })
    c.args.keys.now c.args.rows.now c.requires.rows c.args.number c.args.bound.now c.in-None.ensures
