use Rattle.std.proofs.Common.{◌≡◌, ◌++◌, drop}
use Rattle.eb_value.specs.steps.Merges as spec
use Rattle.eb_value.proofs.merges.merged.Given as goal

abbrev pub invariant-loop-value : goal.invariant-loop-value
invariant-loop-value l = l.all ++ spec.merged (drop l.value-index l.a) l.rest ≡ spec.merged l.a l.b
