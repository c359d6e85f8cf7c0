use Rattle.std.proofs.Common.{◌≡◌, ◌∙◌, get_or, [], length, rules}
use Rattle.std.proofs.lemmas.List.{get_or_default}
use Rattle.domain_store.specs.steps.Rows.{IsPlace, bounds_of, row_at}
use Rattle.domain_store.proofs.PlaceLaws.{rows_add, rows_same}
use Rattle.domain_store.proofs.slots.Slots.add.Goals as goal

pub invariant_of-self-in-Ok : goal.invariant_of-self-in-Ok
invariant_of-self-in-Ok c =
    let place : IsPlace (bounds_of c.self.inside.keys.items (row_at c.widen.new.rows.items c.args.number)) c.in_ok-bound.bound c.in-Err.at =
    rw (c.deref.ensures.value, c.deref-2.ensures.value, c.as_slice.ensures) at c.in-Err.ensures.place.place in
    let old : c.index_mut.result.now ≡ get_or c.widen.new.rows.items c.args.number [] =
    c.index_mut.ensures.value ∙ get_or_default c.widen.new.rows.items c.args.number c.index_mut.result.now [] c.in_ok-widen.ensures.there in
    let count : c.len-index.result ≡ length c.self.inside.keys.items = search rules in
    rows_add c.self.inside.keys.items c.push.new.self.items c.widen.new.rows.items _ c.in-Err.at c.len-index.result c.index_mut.result.now c.insert.new.self
    (rows_same c.self.inside.keys.items c.self.inside.rows.items c.widen.new.rows.items c.widen.ensures.same c.self.invariant)
    c.in_ok-widen.ensures.there place c.in_ok-push.ensures.items old count c.in-Ok.ensures.put
