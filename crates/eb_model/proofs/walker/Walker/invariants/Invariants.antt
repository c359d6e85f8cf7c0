use Rattle.std.proofs.Common.{◌≡◌, take}
use Rattle.std.specs.Prelude.{fold}
use Rattle.eb_model.specs.Models as spec
use Rattle.eb_model.proofs.walker.Walker.invariants.Given as goal

abbrev pub invariant-loop-predicate : goal.invariant-loop-predicate
invariant-loop-predicate l = l.self ≡ fold (spec.invariant_at l.scope.entries l.unit) l.initial.self (take l.predicate-index l.predicates)
