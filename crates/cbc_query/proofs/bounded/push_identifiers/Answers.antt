use Rattle.std.proofs.Common.{append_assoc, arith}
use Rattle.cbc_query.proofs.Bindings.{identifier_next}
use Rattle.cbc_query.proofs.bounded.push_identifiers.Goals as goal

pub loop-identifier-preserved : goal.loop-identifier-preserved
loop-identifier-preserved c =
    let xs = c.args.identifiers.now in
    let h = c.loop-identifier.invariant.0 in
    let k = c.loop-identifier.invariant.1 in
    let n = identifier_next c.args.first c.loop-identifier.identifier-index xs c.identifier-item.result c.loop-identifier-test.true c.identifier-item.is in
    grind (arith, append_assoc, n, h, k)
