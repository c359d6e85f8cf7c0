use Rattle.std.proofs.Common.{◌≡◌, take, map}
use Rattle.std.specs.List.{flat_map}
use Rattle.eb_value.specs.Comprehensions as set
use Rattle.eb_value.proofs.families.union_all.Given as goal

abbrev pub invariant-loop-each : goal.invariant-loop-each
invariant-loop-each l = l.all.items ≡ flat_map (λ s. s) (map set.members (take l.each-index l.sets))
