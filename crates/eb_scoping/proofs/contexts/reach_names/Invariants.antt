use Rattle.std.proofs.Common.{Contains, take}
use Rattle.eb_scoping.specs.FreeNames.{names_of}
use Rattle.eb_scoping.specs.steps.Walking.{Adds}
use Rattle.eb_scoping.proofs.contexts.reach_names.Given as goal

abbrev pub invariant-loop-name : goal.invariant-loop-name
invariant-loop-name l = Adds l.initial.walk l.walk (Contains (names_of (take l.name-index l.names)))
