use Rattle.domain_store.proofs.KeyLaws.{key_is}
use Rattle.domain_store.proofs.slots.Slots.find.Goals as goal

pub returns-in-Ok-clause-within : goal.returns-in-Ok-clause-within
returns-in-Ok-clause-within c =
    (key_is (record { exact = c.order_is_total.ensures.exact; reflexive = c.order_is_total.ensures.reflexive }) c.args.self.now c.args.number c.args.bound.now c.in-Ok.i
    (rw (c.deref.ensures.value, c.self.view_is) at c.in-Ok.ensures.found)).within
