use Rattle.std.proofs.Common.{◌≡◌, arith, subst}
use Rattle.type_equations.proofs.SettleLaws.{AreBegun, are_settled}
use Rattle.type_equations.proofs.settling.settle_all.Goals as goal

pub returns-clause-settled : goal.returns-clause-settled
returns-clause-settled c =
    let all : c.loop-number.number ≡ c.args.total = omega arith in
    are_settled c.args.store.now c.args.total c.loop-number.marks c.loop-number.path.items c.requires.count
    (subst (λ n. AreBegun c.args.store.now n c.loop-number.marks c.loop-number.path.items) all c.loop-number.invariant.begun)
