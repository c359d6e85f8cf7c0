use Rattle.std.proofs.Common.{◌≡◌, ◌++◌, drop, map}
use Rattle.std.specs.List.{flat_map}
use Rattle.cbc_query.specs.Parts.{constants, part_constants}
use Rattle.cbc_answers.proofs.answer.constants_of.Given as goal

abbrev pub invariant-loop-part : goal.invariant-loop-part
invariant-loop-part l = map (λ x. x.now) l.all.items ++ flat_map part_constants (drop l.part-index l.model.parts) ≡ constants l.model
