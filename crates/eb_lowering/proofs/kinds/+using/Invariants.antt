use Rattle.std.proofs.Common.{◌≡◌, ◌+◌, ◌*◌, drop}
use Rattle.std.specs.Prelude.{max}
use Rattle.eb_resolved.specs.declared.resolved.Resolved.{size-Resolved}
use Rattle.eb_lowering.specs.declared.setting.Setting.{Setting}
use Rattle.eb_lowering.proofs.UsesRows.{some_used}
use Rattle.eb_lowering.proofs.kinds.+using.Given as goal

abbrev pub invariant-any_uses-loop-formula : goal.invariant-any_uses-loop-formula
invariant-any_uses-loop-formula l = (s : Setting) → some_used l.numbers s l.formulas ≡ some_used l.numbers s (drop l.formula-index l.formulas)

-- two for each level, since the parts are passed on by functions in between
abbrev pub decreases-uses_any : goal.decreases-uses_any
decreases-uses_any l = 2 * size-Resolved l.formula.now

abbrev pub decreases-two_use : goal.decreases-two_use
decreases-two_use l = 2 * max (size-Resolved l.first.now) (size-Resolved l.second.now) + 1

abbrev pub decreases-any_uses : goal.decreases-any_uses
decreases-any_uses l = 2 * goal.size-any_uses l + 1
