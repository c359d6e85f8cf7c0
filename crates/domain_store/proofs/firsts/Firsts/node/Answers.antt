use Rattle.std.proofs.Common.{◌≡◌, ◌∙◌, slice_get, Some, None}
use Rattle.domain_store.proofs.ReadLaws.{node_there, fact_there, node_past}
use Rattle.domain_store.proofs.firsts.Firsts.node.Goals as goal

pub returns-in-Some-Some : goal.returns-in-Some-Some
returns-in-Some-Some c =
    let at : slice_get c.self.inside.numbers.items c.args.k ≡ Some (Some c.in-Some-Some.number) = rw (c.deref.ensures.value, c.in-Some-Some.field-0-is) at c.in-Some-Some.ensures in
    rw (← c.self.view_is) (node_there c.self.inside.wholes.scope c.self.inside.wholes.types c.self.inside.nodes.now c.self.inside.numbers.items c.args.k _ _
    c.self.invariant.nodes at c.whole_at.ensures)

pub returns-in-Some-None : goal.returns-in-Some-None
returns-in-Some-None c =
    let at : slice_get c.self.inside.numbers.items c.args.k ≡ Some None = rw (c.deref.ensures.value, c.in-Some-None.field-0-is) at c.in-Some-None.ensures in
    rw (← c.self.view_is) (fact_there c.self.inside.wholes.scope c.self.inside.wholes.types c.self.inside.nodes.now c.self.inside.numbers.items c.args.k _
    c.self.invariant.nodes at c.self.invariant.fact)

pub returns-in-None : goal.returns-in-None
returns-in-None c =
    let at : slice_get c.self.inside.numbers.items c.args.k ≡ None = rw c.deref.ensures.value at c.in-None.ensures in
    rw (← c.self.view_is) (c.self.invariant.none ∙ node_past c.self.inside.wholes.scope c.self.inside.wholes.types c.self.inside.nodes.now c.self.inside.numbers.items c.args.k
    c.self.invariant.nodes at (c.nodes_have_their_places.ensures.past c.self.inside.nodes.now c.args.k))
