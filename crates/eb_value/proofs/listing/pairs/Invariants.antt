use Rattle.std.proofs.Common.{◌≡◌, take}
use Rattle.eb_value.specs.Scopes as spec
use Rattle.eb_value.proofs.listing.pairs.Given as goal

abbrev pub invariant-loop-first : goal.invariant-loop-first
invariant-loop-first l = l.all.items ≡ spec.pairs (take l.first-index l.firsts) l.seconds
