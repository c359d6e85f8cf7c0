use Rattle.std.proofs.Common.{◌≡◌}
use Rattle.eb_value.specs.Scopes as spec
use Rattle.eb_value.proofs.listing.integers.Given as goal

abbrev pub invariant-loop-k : goal.invariant-loop-k
invariant-loop-k l = l.all ≡ spec.ints_from l.lo l.k
