use Rattle.std.proofs.Common.{◌≡◌, ◌∙◌, slice_get, Some, None}
use Rattle.domain_store.proofs.ReadLaws.{choice_there, choice_past}
use Rattle.domain_store.proofs.firsts.Firsts.choice.Goals as goal

pub returns-in-Some : goal.returns-in-Some
returns-in-Some c =
    let at : slice_get c.self.inside.choices.items c.args.k ≡ Some c.in-Some.domain.now = rw c.deref.ensures.value at c.in-Some.ensures in
    rw (← c.self.view_is) (choice_there c.self.inside.wholes.scope c.self.inside.nodes.now.choices c.self.inside.choices.items c.args.k _ c.self.invariant.choices at)

pub returns-in-None : goal.returns-in-None
returns-in-None c =
    let at : slice_get c.self.inside.choices.items c.args.k ≡ None = rw c.deref.ensures.value at c.in-None.ensures in
    rw (← c.self.view_is) (c.self.invariant.none ∙ choice_past c.self.inside.wholes.scope c.self.inside.nodes.now.choices c.self.inside.choices.items c.args.k c.self.invariant.choices at)
