use Rattle.std.proofs.Common.{◌≡◌, take}
use Rattle.cbc_query.proofs.known.shared_types.Given as goal

abbrev pub invariant-loop-number : goal.invariant-loop-number
invariant-loop-number l = l.all ≡ take l.number l.types
