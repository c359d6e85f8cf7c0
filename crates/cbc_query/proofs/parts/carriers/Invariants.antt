use Rattle.std.proofs.Common.{◌≡◌, take}
use Rattle.std.specs.List.{flat_map}
use Rattle.cbc_query.specs.Parts.{part_carriers}
use Rattle.cbc_query.proofs.parts.carriers.Given as goal

abbrev pub invariant-loop-part : goal.invariant-loop-part
invariant-loop-part l = l.names ≡ flat_map part_carriers (take l.part-index l.model.parts)
