use Rattle.std.proofs.Common.{◌≡◌, length}
use Rattle.type_equations.proofs.depths.Depths.unknown.Given as goal

abbrev pub invariant-loop-number : goal.invariant-loop-number
invariant-loop-number l = length l.depths.items ≡ l._number
