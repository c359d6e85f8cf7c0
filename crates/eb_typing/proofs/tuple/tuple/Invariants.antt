use Rattle.std.proofs.Common.{◌≡◌, take}
use Rattle.std.specs.Prelude.{ℕ, fold}
use Rattle.eb_typing.specs.steps.Generating as spec
use Rattle.eb_resolved.specs.Patterns.{ungrouped}
use Rattle.eb_typing.proofs.tuple.tuple.Given as goal

abbrev pub invariant-loop-token : goal.invariant-loop-token
invariant-loop-token l = (l.groups, l.out) ≡ fold (spec.token l.asked) (ungrouped ℕ l.first, l.initial.out) (take l.token-index l.tokens)
