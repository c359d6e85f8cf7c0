use Rattle.std.proofs.Common.{◌≡◌, ◌++◌, map, take}
use Rattle.eb_value.specs.Values.{pair}
use Rattle.eb_value.proofs.listing.push_pairs.Given as goal

abbrev pub invariant-loop-second : goal.invariant-loop-second
invariant-loop-second l = l.all.items ≡ l.initial.all.items ++ map (pair l.first) (take l.second-index l.seconds)
