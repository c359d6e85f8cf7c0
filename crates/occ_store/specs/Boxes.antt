-- Lists of boxes, first ones first. Each box is a store.
use Rattle.std.specs.Prelude.{ℕ, ◌<◌, List, [], ◌∷◌, set, length}
use Rattle.int_dom.specs.declared.interval.Interval.{Interval}
use Rattle.occ_store.specs.Stores.{Store}

-- the boxes behind the first
abbrev pub after_first : List Store → List Store
after_first [] = []
after_first (store ∷ stores) = stores

-- the first box's store has the choice
abbrev pub HasChoice : List Store → ℕ → Type 0
HasChoice [] choice = ⊥
HasChoice (store ∷ stores) choice = choice < length store

-- two boxes in the place of the first, in which the choice has these domains
abbrev pub split_first : ℕ → Interval → Interval → List Store → List Store
split_first choice low high [] = []
split_first choice low high (store ∷ stores) = set store choice low ∷ (set store choice high ∷ stores)
