use Rattle.std.proofs.Common.{◌≡◌, ◌∙◌, slice_get, Some, None}
use Rattle.domain_store.proofs.ReadLaws.{term_there, term_past}
use Rattle.domain_store.proofs.firsts.Firsts.definition.Goals as goal

pub returns-in-Some : goal.returns-in-Some
returns-in-Some c =
    let at : slice_get c.self.inside.definitions.items c.args.k ≡ Some c.in-Some.number.now = rw c.deref.ensures.value at c.in-Some.ensures in
    rw (← c.self.view_is) (term_there c.self.inside.wholes.scope c.self.inside.wholes.types c.self.inside.nodes.now.definitions c.self.inside.definitions.items c.args.k _ _
    c.self.invariant.definitions at c.whole_at.ensures)

pub returns-in-None : goal.returns-in-None
returns-in-None c =
    let at : slice_get c.self.inside.definitions.items c.args.k ≡ None = rw c.deref.ensures.value at c.in-None.ensures in
    rw (← c.self.view_is) (c.self.invariant.none ∙ term_past c.self.inside.wholes.scope c.self.inside.wholes.types c.self.inside.nodes.now.definitions c.self.inside.definitions.items c.args.k
    c.self.invariant.definitions at)
