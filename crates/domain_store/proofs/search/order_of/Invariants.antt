use Rattle.std.proofs.Common.{◌≡◌, ◌≤◌, length, drop}
use Rattle.eb_value.specs.Values.{compare_all}
use Rattle.domain_store.proofs.search.order_of.Given as goal

abbrev pub invariant-loop-i : goal.invariant-loop-i
invariant-loop-i l = (l.i ≤ length l.b) × (compare_all l.a l.b ≡ compare_all (drop l.i l.a) (drop l.i l.b))
