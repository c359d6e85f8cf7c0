use Rattle.std.proofs.Common.{◌≡◌, filter, take}
use Rattle.eb_value.specs.steps.Joins as step
use Rattle.eb_value.specs.steps.Merges.{second_of}
use Rattle.eb_value.proofs.relations.kept_by_second.Given as goal

abbrev pub invariant-loop-value : goal.invariant-loop-value
invariant-loop-value l = l.all ≡ filter (λ v. step.tests l.keep l.s (second_of v)) (take l.value-index l.r)
