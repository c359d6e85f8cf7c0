use Rattle.std.proofs.Common.{◌≡◌}
use Rattle.cbc_top.specs.steps.Reads.{HasJoined}
use Rattle.cbc_top.proofs.model_files.joined.Given as goal

abbrev pub invariant-loop-k : goal.invariant-loop-k
invariant-loop-k g l = record {
  same : g.S.Source.files l.src ≡ g.S.Source.files l.fn.src;
  faults : g.S.Source.faults l.src ≡ g.S.Source.faults l.fn.src;
  joined : HasJoined l.names (g.S.Source.files l.fn.src) (g.S.Source.opened l.fn.src) (g.S.Source.opened l.src) l.k l.bytes.items;
}
