use Rattle.std.proofs.Common.{◌≡◌, take}
use Rattle.numbered_names.specs.Names as spec
use Rattle.numbered_names.proofs.names.Names.bind_pattern.Given as goal

abbrev pub invariant-loop-token : goal.invariant-loop-token
invariant-loop-token l = l.self ≡ spec.bind_pattern l.initial.self (take l.token-index l.tokens)
