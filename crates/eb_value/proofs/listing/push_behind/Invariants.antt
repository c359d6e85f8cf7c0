use Rattle.std.proofs.Common.{◌≡◌, ◌++◌, ◌∷◌, map, take}
use Rattle.eb_value.proofs.listing.push_behind.Given as goal

abbrev pub invariant-loop-list : goal.invariant-loop-list
invariant-loop-list l = l.all ≡ l.fn.all ++ map (λ list. l.first ∷ list) (take l.list-index l.lists)
