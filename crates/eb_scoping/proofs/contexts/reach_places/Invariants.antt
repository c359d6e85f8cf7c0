use Rattle.std.proofs.Common.{take}
use Rattle.eb_scoping.specs.steps.Walking.{Adds, IsBehind}
use Rattle.eb_scoping.proofs.contexts.reach_places.Given as goal

abbrev pub invariant-loop-place : goal.invariant-loop-place
invariant-loop-place l = Adds l.initial.walk l.walk (IsBehind l.units (take l.place-index l.places))
