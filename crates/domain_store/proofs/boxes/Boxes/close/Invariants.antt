use Rattle.std.proofs.Common.{◌≡◌, length, reverse, map}
use Rattle.domain_store.specs.Boxes.{stores_of, store_by, after_first, cells_from}
use Rattle.domain_store.specs.steps.Kept.{IsSound}
use Rattle.domain_store.proofs.boxes.Boxes.close.Given as goal

abbrev pub invariant-loop-change : goal.invariant-loop-change
invariant-loop-change l = record {
  sound : IsSound l.self-inside.firsts.problem l.self-inside.slots l.self-inside.cells.items l.self-inside.changes.items;
  scope : l.self-inside.firsts.scope ≡ l.fn.self.scope;
  problem : l.self-inside.firsts.problem ≡ l.fn.self.problem;
  stores : after_first (stores_of l.fn.self) ≡ after_first (map (store_by l.self-inside.firsts.scope l.self-inside.firsts.problem l.self-inside.slots)
      (cells_from l.self-inside.is_closed l.self-inside.cells.items (reverse l.self-inside.changes.items)));
}

abbrev pub decreases-loop-change : goal.decreases-loop-change
decreases-loop-change l = length l.self-inside.changes.items
