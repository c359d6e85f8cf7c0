use Rattle.std.proofs.Common.{◌≡◌, drop}
use Rattle.eb_resolved.specs.Patterns.{pattern_from}
use Rattle.narrow_terms.specs.Building.{pair}
use Rattle.eb_lowering.specs.steps.Grouping as step
use Rattle.eb_lowering.proofs.pattern.tuple.Given as goal

abbrev pub invariant-loop-mark : goal.invariant-loop-mark
invariant-loop-mark l = step.tuple l.setting l.around l.marks l.first ≡ pattern_from (step.leaf l.setting l.around) pair (drop l.mark-index l.marks) l.groups
