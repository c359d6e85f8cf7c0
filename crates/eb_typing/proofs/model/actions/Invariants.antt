use Rattle.std.proofs.Common.{◌≡◌, take}
use Rattle.std.specs.Prelude.{fold}
use Rattle.eb_typing.specs.steps.Demanding as model
use Rattle.eb_typing.proofs.model.actions.Given as goal

abbrev pub invariant-loop-action : goal.invariant-loop-action
invariant-loop-action l = l.out ≡ fold (model.action l.asked) l.initial.out (take l.action-index l.actions)
