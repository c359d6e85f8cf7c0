use Rattle.std.proofs.Common.{◌≡◌, map, take}
use Rattle.std.specs.List.{flat_map}
use Rattle.eb_lowering.specs.Lowering.{term_of}
use Rattle.cbc_query.specs.Parts.{part_axioms}
use Rattle.cbc_query.proofs.parts.axiom_terms.Given as goal

abbrev pub invariant-loop-part : goal.invariant-loop-part
invariant-loop-part l = l.terms ≡ map (λ a. term_of l.setting a.formula) (flat_map part_axioms (take l.part-index l.model.parts))
