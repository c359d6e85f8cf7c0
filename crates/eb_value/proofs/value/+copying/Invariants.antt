use Rattle.std.proofs.Common.{◌≡◌, take}
use Rattle.eb_value.proofs.value.+copying.Given as goal

abbrev pub invariant-values_copied-loop-value : goal.invariant-values_copied-loop-value
invariant-values_copied-loop-value l = l.copy ≡ take l.value-index l.values
