use Rattle.std.proofs.Common.{◌≡◌, take}
use Rattle.std.specs.Prelude.{fold}
use Rattle.eb_model.specs.Models as spec
use Rattle.eb_model.proofs.walker.Walker.carriers.Given as goal

abbrev pub invariant-loop-identifier : goal.invariant-loop-identifier
invariant-loop-identifier l = l.self ≡ fold spec.carrier l.initial.self (take l.identifier-index l.identifiers)
