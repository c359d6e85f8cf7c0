use Rattle.std.proofs.Common.{◌≡◌, map, take}
use Rattle.std.specs.List.{flat_map}
use Rattle.cbc_query.specs.Parts.{part_constants}
use Rattle.cbc_query.specs.Problems.{choice_of}
use Rattle.cbc_query.proofs.parts.choices_of.Given as goal

abbrev pub invariant-loop-part : goal.invariant-loop-part
invariant-loop-part l = l.choices ≡ map (choice_of l.types) (flat_map part_constants (take l.part-index l.model.parts))
