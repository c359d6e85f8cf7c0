use Rattle.std.proofs.Common.{append_assoc, arith}
use Rattle.cbc_query.proofs.Bindings.{mark_next, marks_length}
use Rattle.cbc_query.proofs.bounded.push_pattern.Goals as goal

pub loop-mark-preserved : goal.loop-mark-preserved
loop-mark-preserved c =
    let ms = c.args.marks.now in
    let h = c.loop-mark.invariant.0 in
    let k = c.loop-mark.invariant.1 in
    let n = mark_next c.args.first c.loop-mark.mark-index ms c.mark-item.result c.loop-mark-test.true c.mark-item.is in
    let m = marks_length c.loop-mark.mark-index ms c.mark-item.result c.loop-mark-test.true c.mark-item.is in
    grind (arith, append_assoc, n, m, h, k)
