use Rattle.std.proofs.Common.{◌≡◌, ◌+◌, ◌≤◌, drop, length}
use Rattle.eb_syntax.specs.declared.ast.Bound.TheVariants as bound
use Rattle.eb_forms.specs.Widths as spec
use Rattle.eb_forms.proofs.widths.pattern_count.Given as goal

abbrev pub invariant-loop-mark : goal.invariant-loop-mark
invariant-loop-mark l = (length (spec.bound_identifiers (bound.Pattern l.marks)) ≡ l.count + length (spec.bound_identifiers (bound.Pattern (drop l.mark-index l.marks)))) × (l.count ≤ l.mark-index)
