use Rattle.std.proofs.Common.{◌≡◌, length, reverse}
use Rattle.occ_store.specs.Boxes.{after_first}
use Rattle.occ_store.specs.steps.Changes.{boxes_from}
use Rattle.occ_store.proofs.boxes.Boxes.close.Given as goal

abbrev pub invariant-loop-change : goal.invariant-loop-change
invariant-loop-change l =
    after_first l.fn.self ≡ after_first (boxes_from l.self-inside.is_closed l.self-inside.store (reverse l.self-inside.changes.items))

abbrev pub decreases-loop-change : goal.decreases-loop-change
decreases-loop-change l = length l.self-inside.changes.items
