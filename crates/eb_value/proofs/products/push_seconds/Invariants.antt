use Rattle.std.proofs.Common.{◌≡◌, ◌++◌, take}
use Rattle.std.specs.List.{filter_map}
use Rattle.eb_value.specs.steps.Merges.{second_of}
use Rattle.eb_value.proofs.products.push_seconds.Given as goal

abbrev pub invariant-loop-pair : goal.invariant-loop-pair
invariant-loop-pair l = l.all.items ≡ l.initial.all.items ++ filter_map second_of (take l.pair-index l.pairs)
