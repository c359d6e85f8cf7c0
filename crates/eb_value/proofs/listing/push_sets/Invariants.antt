use Rattle.std.proofs.Common.{◌≡◌, ◌++◌, map, take}
use Rattle.eb_value.specs.Values.{set}
use Rattle.eb_value.proofs.listing.push_sets.Given as goal

abbrev pub invariant-loop-list : goal.invariant-loop-list
invariant-loop-list l = l.all ≡ l.fn.all ++ map set (take l.list-index l.lists)
