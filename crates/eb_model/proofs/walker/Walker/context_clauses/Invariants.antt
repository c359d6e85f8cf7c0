use Rattle.std.proofs.Common.{◌≡◌, take}
use Rattle.std.specs.Prelude.{fold}
use Rattle.eb_model.specs.Models as spec
use Rattle.eb_model.proofs.walker.Walker.context_clauses.Given as goal

abbrev pub invariant-loop-clause : goal.invariant-loop-clause
invariant-loop-clause l = l.self ≡ fold (spec.context_clause l.scope.entries l.unit) l.initial.self (take l.clause-index l.clauses)
