use Rattle.std.proofs.Common.{◌≡◌, ◌≤◌, length, drop}
use Rattle.eb_value.specs.Values as spec
use Rattle.eb_value.proofs.order.+ordering.Given as goal

abbrev pub invariant-compare_all-loop-i : goal.invariant-compare_all-loop-i
invariant-compare_all-loop-i l = (l.i ≤ length l.ys) × (spec.compare_all l.xs l.ys ≡ spec.compare_all (drop l.i l.xs) (drop l.i l.ys))
