-- The rows of `*`, `/` and `mod`.
use Rattle.std.specs.Prelude.{Bool, not, ◌&&◌, if◌then◌else◌, Option, ℤ, pos, neg_ℤ, ◌+ℤ◌, ◌-ℤ◌, ◌*ℤ◌, int_le, int_lt, int_div, unsigned_abs}
use Rattle.std.specs.Int.{int_min, int_max, int_div_euclid}
use Rattle.std.specs.Ordering.{int_eq}
use Rattle.eb_value.specs.declared.value.Value.{Value}
use Rattle.eb_operations.specs.Arithmetic.{defined_int, quotient, remainder}
use Rattle.eb_term.specs.declared.operators.Side.{Side}
use Rattle.eb_term.specs.declared.operators.Side.TheVariants as side
use Rattle.int_dom.specs.declared.interval.Interval.{Interval}
use Rattle.int_dom.specs.Intervals.{is_empty, is_single}
use Rattle.occ_domains.specs.declared.body.Body.{Body}
use Rattle.occ_domains.specs.declared.body.Body.TheVariants as of
use Rattle.occ_domains.specs.declared.domain.Domain.{Domain}
use Rattle.occ_domains.specs.Bodies.{integers}
use Rattle.rules_integers.specs.Ends.{least, greatest, clipped, within, by_ends, by_span}

abbrev pub least_of : ℤ → ℤ → ℤ → ℤ → ℤ
least_of k l m n = int_min (int_min k l) (int_min m n)

abbrev pub greatest_of : ℤ → ℤ → ℤ → ℤ → ℤ
greatest_of k l m n = int_max (int_max k l) (int_max m n)

-- from the least to the greatest result on an end of a and one of b
abbrev pub over_ends : (ℤ → ℤ → ℤ) → Interval → Interval → Interval
over_ends f a b = record {
  lo = least_of (f a.lo b.lo) (f a.lo b.hi) (f a.hi b.lo) (f a.hi b.hi);
  hi = greatest_of (f a.lo b.lo) (f a.lo b.hi) (f a.hi b.lo) (f a.hi b.hi);
}

-- ---- `a * b`

abbrev pub product : ℤ → ℤ → Option Value
product m n = defined_int (m *ℤ n)

-- Up: from the least to the greatest product of ends; Undefined where one lies beyond the range
abbrev pub up_product : Bool → Interval → Interval → Domain
up_product defined a b = by_span defined product (over_ends (λ m n. m *ℤ n) a b) a b

-- the integers whose product with one that isn't 0 is in the interval
abbrev pub factors : ℤ → Interval → Interval
factors n d = if int_lt (pos 0) n
    then record { lo = neg_ℤ (int_div_euclid (neg_ℤ d.lo) n); hi = int_div_euclid d.hi n }
    else record { lo = neg_ℤ (int_div_euclid d.hi (neg_ℤ n)); hi = int_div_euclid (neg_ℤ d.lo) (neg_ℤ n) }

abbrev pub factors_of : Interval → Interval → Interval
factors_of whole other = if is_single other && not (int_eq other.lo (pos 0)) then factors other.lo whole else clipped least greatest

-- Down to either side: where the other has one value, and not 0, the integers with a product in the whole
abbrev pub down_product : Interval → Interval → Interval
down_product whole other = factors_of (within whole) (within other)

-- ---- `a / b`

abbrev pub has_zero : Interval → Bool
has_zero d = int_le d.lo (pos 0) && int_le (pos 0) d.hi

-- the divisors of an interval, an end that is 0 moved by one
abbrev pub divisors : Interval → Interval
divisors d = record {
  lo = if int_eq d.lo (pos 0) then pos 1 else d.lo;
  hi = if int_eq d.hi (pos 0) then neg_ℤ (pos 1) else d.hi;
}

-- the greatest absolute end
abbrev pub reach : Interval → ℤ
reach d = int_max (pos (unsigned_abs d.lo)) (pos (unsigned_abs d.hi))

abbrev pub quotients_by : Interval → Interval → Body
quotients_by a b = if is_empty b then of.Empty
    else if has_zero b then integers (record { lo = neg_ℤ (reach a); hi = reach a })
    else integers (over_ends int_div a b)

-- Up: from the least to the greatest quotient of ends, and of each sign where the divisor may have either; Undefined where it
-- may be 0
abbrev pub up_quotient : Bool → Interval → Interval → Domain
up_quotient defined a b = by_ends defined quotient (quotients_by (within a) (divisors (within b))) (has_zero (within b)) a b

-- Down to the divisor
abbrev pub down_divisor : Interval → Interval
down_divisor b = divisors (within b)

-- ---- `a mod b`

-- Up: from 0 to the lesser of a's upper end and the one before b's; Undefined unless a is 0 or above and b above 0
abbrev pub up_remainder : Bool → Interval → Interval → Domain
up_remainder defined a b = by_ends defined remainder (integers (clipped (pos 0) (int_min a.hi (b.hi -ℤ pos 1)))) (not (int_le (pos 0) a.lo && int_lt (pos 0) b.lo)) a b

-- the remainder where a side has the one integer and the other side has the other
abbrev pub remainder_of : Side → ℤ → ℤ → Option Value
remainder_of side.First m n = remainder m n
remainder_of side.Second m n = remainder n m

-- Down to a side, by the least remainder
abbrev pub down_remainder : Side → Interval → Interval
down_remainder side.First whole = clipped (int_max (pos 0) whole.lo) greatest
down_remainder side.Second whole = clipped (int_max (pos 1) (whole.lo +ℤ pos 1)) greatest
