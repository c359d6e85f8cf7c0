use Rattle.std.proofs.Common.{◌≡◌, ◌++◌, drop}
use Rattle.eb_model.specs.Models as spec
use Rattle.eb_model.proofs.rows.all_assigned.Given as goal

abbrev pub invariant-loop-identifier : goal.invariant-loop-identifier
invariant-loop-identifier l = spec.all_assigned l.scope.entries l.identifiers ≡ l.all ++ spec.all_assigned l.scope.entries (drop l.identifier-index l.identifiers)
