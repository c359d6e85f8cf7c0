use Rattle.std.proofs.Common.{◌≡◌}
use Rattle.eb_value.specs.Scopes as spec
use Rattle.eb_value.proofs.listing.atoms.Given as goal

abbrev pub invariant-loop-number : goal.invariant-loop-number
invariant-loop-number l = l.all ≡ spec.atoms_from l.place 1 l.number
