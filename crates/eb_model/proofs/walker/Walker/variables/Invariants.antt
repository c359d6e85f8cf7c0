use Rattle.std.proofs.Common.{◌≡◌, take}
use Rattle.std.specs.Prelude.{fold}
use Rattle.eb_model.specs.declared.model.ModelPart.TheVariants as part
use Rattle.eb_model.specs.Models as spec
use Rattle.eb_model.proofs.walker.Walker.variables.Given as goal

abbrev pub invariant-loop-identifier : goal.invariant-loop-identifier
invariant-loop-identifier l = l.self ≡ fold (spec.declare part.Variable) l.initial.self (take l.identifier-index l.identifiers)
