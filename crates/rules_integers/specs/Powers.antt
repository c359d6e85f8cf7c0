-- The row of `^`.
use Rattle.std.specs.Prelude.{Bool, not, ◌&&◌, ◌||◌, if◌then◌else◌, ℤ, pos, int_le, int_lt, unsigned_abs}
use Rattle.std.specs.Int.{int_max, int_pow}
use Rattle.eb_operations.specs.Arithmetic.{power}
use Rattle.int_dom.specs.declared.interval.Interval.{Interval}
use Rattle.occ_domains.specs.declared.body.Body.{Body}
use Rattle.occ_domains.specs.declared.body.Body.TheVariants as of
use Rattle.occ_domains.specs.declared.domain.Domain.{Domain}
use Rattle.occ_domains.specs.Bodies.{integers}
use Rattle.rules_integers.specs.Ends.{greatest, clipped, by_ends}

-- the power of what is 0 or above
abbrev pub raised : ℤ → ℤ → ℤ
raised m n = int_pow m (unsigned_abs n)

-- the integer, or 0 where it is below
abbrev pub natural : ℤ → ℤ
natural n = int_max (pos 0) n

-- the power of the lower ends, 0 where the base may be 0
abbrev pub least_power : Interval → Interval → ℤ
least_power a b = if int_le (pos 1) a.lo then raised a.lo (natural b.lo) else pos 0

-- the power of the upper ends, 1 at least
abbrev pub greatest_power : Interval → Interval → ℤ
greatest_power a b = int_max (pos 1) (raised (natural a.hi) (natural b.hi))

-- no power is defined
abbrev pub has_no_power : Interval → Interval → Bool
has_no_power a b = int_lt a.hi (pos 0) || int_lt b.hi (pos 0) || int_lt greatest (least_power a b)

abbrev pub powers : Interval → Interval → Body
powers a b = if has_no_power a b then of.Empty else integers (clipped (least_power a b) (greatest_power a b))

-- Up: from the power of the lower ends to that of the upper ones; Undefined unless both are 0 or above and it is within the range
abbrev pub up_power : Bool → Interval → Interval → Domain
up_power defined a b = by_ends defined power (powers a b) (not (int_le (pos 0) a.lo && int_le (pos 0) b.lo) || int_lt greatest (greatest_power a b)) a b

-- Down to either side: 0 or above
abbrev pub down_power : Interval
down_power = clipped (pos 0) greatest
