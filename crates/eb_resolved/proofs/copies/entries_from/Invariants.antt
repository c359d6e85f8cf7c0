use Rattle.std.proofs.Common.{◌≡◌, ◌++◌, drop}
use Rattle.eb_resolved.specs.Resolving.{entries_from}
use Rattle.eb_resolved.proofs.copies.entries_from.Given as goal

abbrev pub invariant-loop-identifier : goal.invariant-loop-identifier
invariant-loop-identifier l = entries_from l.first l.all ≡ l.entries ++ entries_from l.number (drop l.identifier-index l.all)
