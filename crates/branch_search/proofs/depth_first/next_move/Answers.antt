use Rattle.std.proofs.Common.{arith}
use Rattle.occ_store.specs.Stores.{IsLoose}
use Rattle.branch_search.proofs.Goings.{not_all}
use Rattle.branch_search.proofs.depth_first.next_move.Goals as goal

pub returns-in-Some-2 : goal.returns-in-Some-2
returns-in-Some-2 c =
    let loose : IsLoose c.args.store.now c.in-Some-2.field-0 = rw c.in-Some-2.is at c.loose.ensures in
    (not_all c.args.store.now c.in-Some-2.field-0.0 c.in-Some-2.field-0.1 loose.domain loose.several, omega (arith, c.if-left-gt0.false))
