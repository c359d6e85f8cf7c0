use Rattle.std.proofs.Common.{◌≡◌, take}
use Rattle.std.specs.Prelude.{fold}
use Rattle.eb_typing.specs.steps.Demanding as model
use Rattle.eb_typing.proofs.model.parts.Given as goal

abbrev pub invariant-loop-one : goal.invariant-loop-one
invariant-loop-one l = l.out ≡ fold (model.one_part l.asked) l.initial.out (take l.one-index l.parts)
