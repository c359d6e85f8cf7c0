use Rattle.std.proofs.Common.{◌≡◌, ◌++◌, drop}
use Rattle.eb_value.specs.steps.Merges as spec
use Rattle.eb_value.proofs.merges.kept.Given as goal

abbrev pub invariant-loop-value : goal.invariant-loop-value
invariant-loop-value l = l.all ++ spec.kept (spec.key_of l.key) l.keep (drop l.value-index l.values) l.rest ≡ spec.kept (spec.key_of l.key) l.keep l.values l.among
