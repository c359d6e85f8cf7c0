use Rattle.std.proofs.Common.{◌≡◌, ◌++◌, drop}
use Rattle.eb_resolved.specs.Resolving.{entries_from}
use Rattle.eb_lowering.specs.Lowering as spec
use Rattle.eb_lowering.proofs.numbers.identifier_numbers.Given as goal

abbrev pub invariant-loop-identifier : goal.invariant-loop-identifier
invariant-loop-identifier l = spec.entry_numbers (entries_from l.first l.identifiers) ≡ l.numbers ++ spec.entry_numbers (entries_from l.number (drop l._identifier-index l.identifiers))
