use Rattle.std.proofs.Common.{◌≡◌, ◌+◌, ◌++◌, take}
use Rattle.eb_resolved.specs.Resolving.{entries_from}
use Rattle.cbc_query.proofs.bounded.push_identifiers.Given as goal

abbrev pub invariant-loop-identifier : goal.invariant-loop-identifier
invariant-loop-identifier l = (l.all ≡ l.initial.all ++ entries_from l.first (take l.identifier-index l.identifiers)) × (l.number ≡ l.first + l.identifier-index)
