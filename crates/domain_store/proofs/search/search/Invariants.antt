use Rattle.std.proofs.Common.{◌≤◌, ◌-◌, length, take, drop}
use Rattle.domain_store.specs.steps.Rows.{AllLess, AllOver, bounds_of}
use Rattle.domain_store.proofs.search.search.Given as goal

abbrev pub invariant-loop-low : goal.invariant-loop-low
invariant-loop-low l = record {
  order : l.low ≤ l.high;
  within : l.high ≤ length l.row;
  below : AllLess (take l.low (bounds_of l.keys l.row)) l.bound;
  above : AllOver l.bound (drop l.high (bounds_of l.keys l.row));
}

abbrev pub decreases-loop-low : goal.decreases-loop-low
decreases-loop-low l = l.high - l.low
