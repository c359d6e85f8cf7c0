use Rattle.std.proofs.Common.{◌≡◌, ◌≤◌, ◌-◌, ◌+◌, ◌++◌, ◌∷◌, [], Some, length}
use Rattle.cbc_outside.proofs.KnownParts.{Remains}
use Rattle.cbc_outside.proofs.streams.read_all.Given as goal

abbrev pub invariant-loop-count : goal.invariant-loop-count
invariant-loop-count g l = record {
  within : length l.bytes.items ≤ l.limit;
  remains : Remains (g.S.Source.files l.fn.src) l.fn.name l.bytes.items (g.S.Source.rest l.src);
  same : g.S.Source.files l.src ≡ g.S.Source.files l.fn.src;
  tried : g.S.Source.opened l.src ≡ g.S.Source.opened l.fn.src ++ l.fn.name ∷ [];
  named : g.S.Source.open_name l.src ≡ Some l.fn.name;
  faults : g.S.Source.faults l.src ≡ g.S.Source.faults l.fn.src;
  blamed : g.S.Source.fault_name l.src ≡ g.S.Source.fault_name l.fn.src;
}

abbrev pub decreases-loop-count : goal.decreases-loop-count
decreases-loop-count g l = l.limit + 1 - length l.bytes.items
