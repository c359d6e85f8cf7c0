use Rattle.std.proofs.Common.{◌≡◌, drop}
use Rattle.std.specs.List.{flat_map}
use Rattle.cbc_query.specs.Parts.{part_axioms}
use Rattle.cbc_query.specs.steps.Distinct.{with_all}
use Rattle.cbc_query.specs.steps.Told.{notes_of}
use Rattle.cbc_query.proofs.noting.with_parts.Given as goal

abbrev pub invariant-loop-part : goal.invariant-loop-part
invariant-loop-part l = with_all l.notes (flat_map (notes_of l.setting) (flat_map part_axioms (drop l.part-index l.parts))) ≡ with_all l.initial.notes (flat_map (notes_of l.setting) (flat_map part_axioms l.parts))
