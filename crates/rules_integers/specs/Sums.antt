-- The rows of `<=`, `+` and `-`.
use Rattle.std.specs.Prelude.{Bool, true, false, Option, ℤ, pos, ◌+ℤ◌, ◌-ℤ◌, int_le, int_lt}
use Rattle.eb_value.specs.declared.value.Value.{Value}
use Rattle.eb_operations.specs.Arithmetic.{defined_int}
use Rattle.eb_term.specs.declared.operators.Side.{Side}
use Rattle.eb_term.specs.declared.operators.Side.TheVariants as side
use Rattle.int_dom.specs.declared.interval.Interval.{Interval}
use Rattle.occ_domains.specs.declared.domain.Truths.{Truths}
use Rattle.occ_domains.specs.declared.domain.Domain.{Domain}
use Rattle.rules_integers.specs.Ends.{least, greatest, clipped, by_span}

-- ---- `a <= b`

-- Up: true where some integer of a is at most one of b, false where one is above
abbrev pub up_at_most : Interval → Interval → Truths
up_at_most a b = record { can_be_true = int_le a.lo b.hi; can_be_false = int_lt b.lo a.hi; can_be_undefined = false }

-- the integer of a side is at most that of the other, or at least
abbrev pub at_most : Side → ℤ → ℤ → Bool
at_most side.First m n = int_le m n
at_most side.Second m n = int_le n m

-- Down to a side, where the whole is true alone, or false alone
abbrev pub down_at_most : Side → Bool → Interval → Interval
down_at_most side.First true b = clipped least b.hi
down_at_most side.Second true a = clipped a.lo greatest
down_at_most side.First false b = clipped (b.lo +ℤ pos 1) greatest
down_at_most side.Second false a = clipped least (a.hi -ℤ pos 1)

-- ---- `a + b`

abbrev pub sum : ℤ → ℤ → Option Value
sum m n = defined_int (m +ℤ n)

-- Up: the sums of the ends; Undefined where one lies beyond the range
abbrev pub up_sum : Bool → Interval → Interval → Domain
up_sum defined a b = by_span defined sum (record { lo = a.lo +ℤ b.lo; hi = a.hi +ℤ b.hi }) a b

-- Down to either side
abbrev pub down_sum : Interval → Interval → Interval
down_sum whole other = clipped (whole.lo -ℤ other.hi) (whole.hi -ℤ other.lo)

-- ---- `a - b`

abbrev pub difference : ℤ → ℤ → Option Value
difference m n = defined_int (m -ℤ n)

-- Up: the differences of opposite ends; Undefined where one lies beyond the range
abbrev pub up_difference : Bool → Interval → Interval → Domain
up_difference defined a b = by_span defined difference (record { lo = a.lo -ℤ b.hi; hi = a.hi -ℤ b.lo }) a b

-- the difference where a side has the one integer and the other side has the other
abbrev pub difference_of : Side → ℤ → ℤ → ℤ
difference_of side.First m n = m -ℤ n
difference_of side.Second m n = n -ℤ m

-- Down to a side
abbrev pub down_difference : Side → Interval → Interval → Interval
down_difference side.First whole b = clipped (whole.lo +ℤ b.lo) (whole.hi +ℤ b.hi)
down_difference side.Second whole a = clipped (a.lo -ℤ whole.hi) (a.hi -ℤ whole.lo)
