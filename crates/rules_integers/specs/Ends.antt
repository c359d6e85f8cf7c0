-- What the rows of integers share: the range of integers, and what comes of single ends.
use Rattle.std.specs.Prelude.{Bool, not, ◌&&◌, ◌||◌, if◌then◌else◌, Option, ℤ, pos, negsuc}
use Rattle.std.specs.Int.{int_min, int_max}
use Rattle.eb_value.specs.declared.value.Value.{Value}
use Rattle.eb_value.specs.Typing.{in_range}
use Rattle.int_dom.specs.declared.interval.Interval.{Interval}
use Rattle.int_dom.specs.Intervals.{is_single}
use Rattle.occ_domains.specs.declared.body.Body.{Body}
use Rattle.occ_domains.specs.declared.domain.Domain.{Domain}
use Rattle.occ_domains.specs.declared.domain.Domain.TheVariants as domain
use Rattle.occ_domains.specs.Bodies.{integers}
use Rattle.occ_domains.specs.Domains.{only}

-- -2 ^ 62 and 2 ^ 62
abbrev pub least : ℤ
least = negsuc 4611686018427387903

abbrev pub greatest : ℤ
greatest = pos 4611686018427387904

-- the integer, or the end of the range that it lies beyond
abbrev pub clip : ℤ → ℤ
clip n = int_max least (int_min greatest n)

abbrev pub clipped : ℤ → ℤ → Interval
clipped lo hi = record { lo = clip lo; hi = clip hi }

-- the interval with its ends clipped
abbrev pub within : Interval → Interval
within d = clipped d.lo d.hi

-- an end lies beyond the range
abbrev pub is_spread : ℤ → ℤ → Bool
is_spread lo hi = not (in_range lo && in_range hi)

-- Up of an operator on two expressions that are among the integers of a and of b. Where neither may be Undefined and each has one
-- value, it is the value of the operator; else the body, and Undefined where the operator or an expression may be.
abbrev pub by_ends : Bool → (ℤ → ℤ → Option Value) → Body → Bool → Interval → Interval → Domain
by_ends defined value body undefined a b =
    if defined && is_single a && is_single b then only (value a.lo b.lo) else domain.Values body (undefined || not defined)

-- where what is known else are the integers of an interval, as far as they are of the range: Undefined where an end lies beyond it
abbrev pub by_span : Bool → (ℤ → ℤ → Option Value) → Interval → Interval → Interval → Domain
by_span defined value d a b = by_ends defined value (integers (clipped d.lo d.hi)) (is_spread d.lo d.hi) a b
