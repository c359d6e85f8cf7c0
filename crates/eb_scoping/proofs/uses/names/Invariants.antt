use Rattle.std.proofs.Common.{◌≡◌, map, take}
use Rattle.eb_scoping.specs.FreeNames.{names_of}
use Rattle.eb_scoping.proofs.uses.names.Given as goal

abbrev pub invariant-loop-identifier : goal.invariant-loop-identifier
invariant-loop-identifier l = map (λ x. x.now) l.names.items ≡ names_of (take l.identifier-index l.identifiers)
