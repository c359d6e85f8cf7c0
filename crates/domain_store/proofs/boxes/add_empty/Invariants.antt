use Rattle.std.proofs.Common.{◌≡◌, ◌+◌, length}
use Rattle.domain_store.specs.steps.Kept.{AreEmpty}
use Rattle.domain_store.proofs.boxes.add_empty.Given as goal

abbrev pub invariant-loop : goal.invariant-loop
invariant-loop l = record {
  length : length l.cells.items ≡ length l.fn.cells.items + l.counter;
  empty : AreEmpty l.fn.cells.items → AreEmpty l.cells.items;
}
