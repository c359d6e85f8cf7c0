use Rattle.std.proofs.Common.{◌≡◌, ◌++◌, drop}
use Rattle.eb_syntax.specs.declared.ast.Bound.TheVariants as bound
use Rattle.eb_resolved.specs.Resolving.{entries_from}
use Rattle.eb_forms.specs.Widths.{bound_identifiers}
use Rattle.eb_lowering.specs.Lowering as spec
use Rattle.eb_lowering.proofs.numbers.pattern_numbers.Given as goal

abbrev pub invariant-loop-mark : goal.invariant-loop-mark
invariant-loop-mark l = spec.entry_numbers (entries_from l.first (bound_identifiers (bound.Pattern l.marks))) ≡ l.numbers ++ spec.entry_numbers (entries_from l.number (bound_identifiers (bound.Pattern (drop l.mark-index l.marks))))
