use Rattle.std.proofs.Common.{◌∙◌, arith, ap, length}
use Rattle.std.proofs.lemmas.List.{length-drop}
use Rattle.cbc_outside.proofs.KnownParts.{Appends_next}
use Rattle.cbc_outside.proofs.streams.write_all.Goals as goal

pub loop-at-preserved : goal.loop-at-preserved
loop-at-preserved g c = record {
  within = omega (arith, length-drop c.loop-at.at c.args.piece.now, c.in_ok-at.ensures.bound, ap length c.after.ensures);
  taken = Appends_next _ _ _ _ _ _ _ c.after.ensures c.loop-at.invariant.taken c.in_ok-at.ensures.bytes;
  faults = c.in_ok-at.ensures.cause.kept ∙ c.loop-at.invariant.faults;
}
