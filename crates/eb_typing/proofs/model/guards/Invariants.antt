use Rattle.std.proofs.Common.{◌≡◌, take}
use Rattle.std.specs.Prelude.{fold}
use Rattle.eb_typing.specs.steps.Demanding as model
use Rattle.eb_typing.proofs.model.guards.Given as goal

abbrev pub invariant-loop-guard : goal.invariant-loop-guard
invariant-loop-guard l = l.out ≡ fold (model.formula l.asked) l.initial.out (take l.guard-index l.guards)
