-- The rows of `+` and `-` have what comes of the integers of their sides.
use Rattle.std.proofs.Common.{◌≡◌, Bool, true, false, None, ℤ, ◌+ℤ◌, ◌-ℤ◌, arith}
use Rattle.std.proofs.lemmas.Int.{ints}
use Rattle.eb_value.specs.Typing.{in_range}
use Rattle.eb_term.specs.declared.operators.Side.{Side}
use Rattle.eb_term.specs.declared.operators.Side.TheVariants as side
use Rattle.int_dom.specs.declared.interval.Interval.{Interval}
use Rattle.int_dom.specs.Intervals.{Has}
use Rattle.occ_domains.specs.Domains.{has, slot, is_normal}
use Rattle.rules_integers.specs.Sums.{sum, up_sum, down_sum, difference, up_difference, difference_of, down_difference}
use Rattle.rules_integers.proofs.RowLaws.{clip_between, span_has, span_undefined, span_normal}

abbrev sums : Interval → Interval → Interval
sums a b = record { lo = a.lo +ℤ b.lo; hi = a.hi +ℤ b.hi }

abbrev differences : Interval → Interval → Interval
differences a b = record { lo = a.lo -ℤ b.hi; hi = a.hi -ℤ b.lo }

-- ---- Up

sum_between : (a b : Interval) (m n : ℤ) → Has a m → Has b n → Has (sums a b) (m +ℤ n)
sum_between a b m n h k = (omega (arith, ints, h.0, k.0), omega (arith, ints, h.1, k.1))

difference_between : (a b : Interval) (m n : ℤ) → Has a m → Has b n → Has (differences a b) (m -ℤ n)
difference_between a b m n h k = (omega (arith, ints, h.0, k.1), omega (arith, ints, h.1, k.0))

pub sum_sound : (defined : Bool) (a b : Interval) (m n : ℤ) → Has a m → Has b n → has (up_sum defined a b) (slot (sum m n)) ≡ true
sum_sound defined a b m n h k = span_has (λ p q. p +ℤ q) (sums a b) a b defined m n h k (sum_between a b m n h k)

pub sum_undefined : (a b : Interval) → has (up_sum false a b) (slot None) ≡ true
sum_undefined a b = span_undefined (λ p q. p +ℤ q) (sums a b) a b

pub sum_normal : (defined : Bool) (a b : Interval) → is_normal (up_sum defined a b) ≡ true
sum_normal defined a b = span_normal (λ p q. p +ℤ q) (sums a b) a b defined

pub difference_sound : (defined : Bool) (a b : Interval) (m n : ℤ) → Has a m → Has b n → has (up_difference defined a b) (slot (difference m n)) ≡ true
difference_sound defined a b m n h k = span_has (λ p q. p -ℤ q) (differences a b) a b defined m n h k (difference_between a b m n h k)

pub difference_undefined : (a b : Interval) → has (up_difference false a b) (slot None) ≡ true
difference_undefined a b = span_undefined (λ p q. p -ℤ q) (differences a b) a b

pub difference_normal : (defined : Bool) (a b : Interval) → is_normal (up_difference defined a b) ≡ true
difference_normal defined a b = span_normal (λ p q. p -ℤ q) (differences a b) a b defined

-- ---- Down

pub sum_left : (whole other : Interval) (m n : ℤ) → in_range m ≡ true → Has other n → Has whole (m +ℤ n) → Has (down_sum whole other) m
sum_left whole other m n e h k = clip_between (differences whole other) m e (omega (arith, ints, h.1, k.0), omega (arith, ints, h.0, k.1))

pub difference_left : (s : Side) (whole other : Interval) (m n : ℤ) → in_range m ≡ true → Has other n → Has whole (difference_of s m n) → Has (down_difference s whole other) m
difference_left side.First whole other m n e h k = clip_between (sums whole other) m e (omega (arith, ints, h.0, k.0), omega (arith, ints, h.1, k.1))
difference_left side.Second whole other m n e h k = clip_between (differences other whole) m e (omega (arith, ints, h.0, k.1), omega (arith, ints, h.1, k.0))
