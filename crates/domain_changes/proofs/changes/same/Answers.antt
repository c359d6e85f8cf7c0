use Rattle.domain_changes.proofs.SameLaws.{same_tells}
use Rattle.domain_changes.proofs.changes.same.Goals as goal

pub returns : goal.returns
returns c =
    let order = c.order_is_total.ensures in
    same_tells order.exact order.reflexive c.args.a.now c.args.b.now c.same_domains.result c.same_domains.ensures
