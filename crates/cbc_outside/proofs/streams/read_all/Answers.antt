use Rattle.std.proofs.Common.{take, arith, length-append, ◌++◌}
use Rattle.cbc_outside.proofs.KnownParts.{Remains-read, Remains-longer, Remains-there}
use Rattle.cbc_outside.proofs.streams.read_all.Goals as goal

pub returns-then-len-count-clause-too_long : goal.returns-then-len-count-clause-too_long
returns-then-len-count-clause-too_long g c = λ stopped.
    let files = g.S.Source.files c.args.src.now in
    let piece = take c.in-Ok.count c.read.new.into in
    let read = Remains-read files c.args.name c.loop-count.bytes.items piece _ _ c.loop-count.invariant.remains c.in-Ok.ensures.bytes in
    let both = length-append c.loop-count.bytes.items piece in
    Remains-longer files c.args.name (c.loop-count.bytes.items ++ piece) _ c.args.limit read (omega (arith, c.in-Ok.ensures.bound.1, both, c.if-len-count.true, c.len.ensures))

pub returns-in_err-extend_from_slice-clause-there : goal.returns-in_err-extend_from_slice-clause-there
returns-in_err-extend_from_slice-clause-there g c = λ stopped. Remains-there _ _ _ _ c.loop-count.invariant.remains
