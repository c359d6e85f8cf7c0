use Rattle.std.proofs.Common.{◌≡◌, take}
use Rattle.numbered_names.specs.Names as spec
use Rattle.numbered_names.proofs.names.Names.bind_all.Given as goal

abbrev pub invariant-loop-identifier : goal.invariant-loop-identifier
invariant-loop-identifier l = l.self ≡ spec.bind_all l.initial.self (take l.identifier-index l.identifiers)
