use Rattle.std.proofs.Common.{map, take}
use Rattle.eb_declared.specs.steps.Keys.{HasFront}
use Rattle.eb_declared.proofs.repeats.first_twice.Given as goal

abbrev pub invariant-loop-name : goal.invariant-loop-name
invariant-loop-name l = HasFront l.front (map (λ x. x.now) (take l.name-index l.names))
