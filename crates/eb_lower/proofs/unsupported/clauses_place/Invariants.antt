use Rattle.std.proofs.Common.{◌≡◌, [], take}
use Rattle.std.specs.List.{flat_map}
use Rattle.eb_lower.specs.Unsupported.{clause_places}
use Rattle.eb_lower.proofs.unsupported.clauses_place.Given as goal

abbrev pub invariant-loop-clause : goal.invariant-loop-clause
invariant-loop-clause l = flat_map clause_places (take l.clause-index l.clauses) ≡ []
