-- Boxes as `Boxes` keeps them: one store, and the changes that lead from it to the later ones.
use Rattle.std.specs.Prelude.{Bool, true, false, cond, List, [], ◌∷◌, set}
use Rattle.occ_store.specs.declared.boxes.Change.{Change}
use Rattle.occ_store.specs.Stores.{Store}

-- the store with the change
abbrev pub changed : Store → Change → Store
changed store change = set store change.choice change.domain

-- the boxes that changes lead to, one after another
abbrev pub later : Store → List Change → List Store
later store [] = []
later store (change ∷ changes) = cond change.is_box (changed store change ∷ later (changed store change) changes) (later (changed store change) changes)

-- what the fields of `Boxes` stand for
abbrev pub boxes_from : Bool → Store → List Change → List Store
boxes_from true store changes = []
boxes_from false store changes = store ∷ later store changes
