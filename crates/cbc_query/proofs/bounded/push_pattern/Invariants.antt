use Rattle.std.proofs.Common.{◌≡◌, ◌+◌, ◌++◌, length, take}
use Rattle.std.specs.List.{flat_map}
use Rattle.eb_forms.specs.Widths.{mark_identifiers}
use Rattle.eb_resolved.specs.Resolving.{entries_from}
use Rattle.cbc_query.proofs.bounded.push_pattern.Given as goal

abbrev pub invariant-loop-mark : goal.invariant-loop-mark
invariant-loop-mark l = (l.all ≡ l.initial.all ++ entries_from l.first (flat_map mark_identifiers (take l.mark-index l.marks))) × (l.number ≡ l.first + length (flat_map mark_identifiers (take l.mark-index l.marks)))
