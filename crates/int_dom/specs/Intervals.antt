-- The integers of an interval, and its two parts by a number.
use Rattle.std.specs.Prelude.{◌≡◌, ℕ, Bool, true, not, ◌&&◌, ◌/◌, if◌then◌else◌, Option, Some, None, ℤ, pos, ◌+ℤ◌, ◌≤ℤ◌, int_lt}
use Rattle.std.specs.Int.{int_min, int_max, int_gap}
use Rattle.std.specs.Ordering.{int_eq}
use Rattle.int_dom.specs.declared.interval.Interval.{Interval}
use Rattle.int_dom.specs.declared.interval.Halves.{Halves}

-- the integers from the lower to the upper end
abbrev pub Has : Interval → ℤ → Type 0
Has d n = (d.lo ≤ℤ n) × (n ≤ℤ d.hi)

-- it has no integer
abbrev pub is_empty : Interval → Bool
is_empty d = int_lt d.hi d.lo

-- it has one integer
abbrev pub is_single : Interval → Bool
is_single d = int_eq d.lo d.hi

-- how many integers it has
abbrev pub size : Interval → ℕ
size d = int_gap d.lo (d.hi +ℤ pos 1)

-- halfway from the lower to the upper end, rounded down
abbrev pub middle : Interval → ℤ
middle d = d.lo +ℤ pos (int_gap d.lo d.hi / 2)

-- The two parts by the test whether an integer is at most a number.
abbrev pub at_most : ℤ → Interval → Interval
at_most n d = record { lo = d.lo; hi = int_min d.hi n }

abbrev pub above : ℤ → Interval → Interval
above n d = record { lo = int_max d.lo (n +ℤ pos 1); hi = d.hi }

-- neither part is empty
abbrev pub has_parts : ℤ → Interval → Bool
has_parts n d = not (is_empty (at_most n d)) && not (is_empty (above n d))

-- the interval, and none where it is empty
abbrev pub filled : Interval → Option Interval
filled d = if is_empty d then None else Some d

-- the two parts by the middle, of which none is empty
pub record AreHalves (d : Interval) (halves : Halves) : Type 0 where
  pub middle : halves.middle ≡ middle d
  pub parts : has_parts halves.middle d ≡ true
  pub low : halves.low ≡ at_most halves.middle d
  pub high : halves.high ≡ above halves.middle d
