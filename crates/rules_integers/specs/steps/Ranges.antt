-- Intervals whose ends lie within the range of integers, or within that of the type.
use Rattle.std.specs.Prelude.{ℤ, ◌≤ℤ◌}
use Rattle.std.specs.Int.{w64, saturate_signed}
use Rattle.int_dom.specs.declared.interval.Interval.{Interval}
use Rattle.rules_integers.specs.Ends.{least, greatest}

-- the integer lies within the range
abbrev pub InRange : ℤ → Type 0
InRange n = (least ≤ℤ n) × (n ≤ℤ greatest)

-- both ends do
abbrev pub IsWithin : Interval → Type 0
IsWithin d = InRange d.lo × InRange d.hi

-- each end, or the end of the type's range that it lies beyond
abbrev pub saturated : Interval → Interval
saturated d = record { lo = saturate_signed w64 d.lo; hi = saturate_signed w64 d.hi }
