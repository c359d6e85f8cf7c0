-- Remainders of integers of two intervals lie below the divisor, and at most at the dividend.
use Rattle.std.proofs.Common.{◌≡◌, refl, Bool, true, false, not, None, Some, ◌&&◌, ◌||◌, ℕ, zero, suc, ℤ, pos, negsuc, int_le, int_lt, ◌-ℤ◌, ◌≤ℤ◌, ◌<◌, arith}
use Rattle.std.proofs.Math.Nat.{mod-lt, mod-le}
use Rattle.std.proofs.lemmas.Int.{ints, clamps}
use Rattle.std.specs.Prelude.{int_rem}
use Rattle.std.specs.Int.{int_min}
use Rattle.eb_value.specs.Typing.{in_range}
use Rattle.eb_operations.specs.Arithmetic.{remainder}
use Rattle.int_dom.specs.declared.interval.Interval.{Interval}
use Rattle.int_dom.specs.Intervals.{Has}
use Rattle.occ_domains.specs.Bodies.{integers}
use Rattle.occ_domains.specs.Domains.{has, has_slot, slot, is_normal}
use Rattle.rules_integers.specs.Ends.{greatest, clipped}
use Rattle.rules_integers.specs.Products.{up_remainder}
use Rattle.rules_integers.proofs.RowLaws.{Numeric, integers_have, integers_normal, row_has, row_normal}

suc_pos : (n : ℕ) → 0 < suc n
suc_pos n = omega arith

-- from 0 to the lesser of the dividend and the one before the divisor
pub remainder_between : (m n : ℤ) → pos 0 ≤ℤ m → pos 1 ≤ℤ n → Has (record { lo = pos 0; hi = int_min m (n -ℤ pos 1) }) (int_rem m n)
remainder_between (pos m) (pos zero) h k = absurd (omega (arith, ints))
remainder_between (pos m) (pos (suc n)) h k =
    let below = mod-lt m (suc_pos n) in
    let within = mod-le m (suc n) in
    (omega (arith, ints), omega (arith, ints, clamps))
remainder_between (pos m) (negsuc n) h k = absurd (omega (arith, ints))
remainder_between (negsuc m) n h k = absurd (omega (arith, ints))

remainder_numeric : (m n : ℤ) → Numeric (remainder m n)
remainder_numeric m n = at (int_le (pos 0) m && int_lt (pos 0) n) refl where
  at : (b : Bool) → (int_le (pos 0) m && int_lt (pos 0) n) ≡ b → Numeric (remainder m n)
  at true e = record { number = Some (int_rem m n); is = rw e refl }
  at false e = record { number = None; is = rw e refl }

remainder_has : (a b : Interval) (m n : ℤ) (w : Bool) → in_range m ≡ true → Has a m → Has b n →
    has_slot (integers (clipped (pos 0) (int_min a.hi (b.hi -ℤ pos 1)))) (not (int_le (pos 0) a.lo && int_lt (pos 0) b.lo) || w) (remainder m n) ≡ true
remainder_has a b m n w in_m h k = at (int_le (pos 0) m && int_lt (pos 0) n) refl where
  at : (t : Bool) → (int_le (pos 0) m && int_lt (pos 0) n) ≡ t → has_slot (integers (clipped (pos 0) (int_min a.hi (b.hi -ℤ pos 1)))) (not (int_le (pos 0) a.lo && int_lt (pos 0) b.lo) || w) (remainder m n) ≡ true
  at true e =
      let first : pos 0 ≤ℤ m = grind (arith, ints) in
      let second : pos 1 ≤ℤ n = grind (arith, ints) in
      let top : m ≤ℤ greatest = grind (arith, ints) in
      let between = remainder_between m n first second in
      rw e (integers_have (clipped (pos 0) (int_min a.hi (b.hi -ℤ pos 1))) (int_rem m n) (omega (arith, ints, clamps, between.0), omega (arith, ints, clamps, between.1)))
  at false e = let lacks : not (int_le (pos 0) a.lo && int_lt (pos 0) b.lo) ≡ true = grind (arith, ints) in rw (e, lacks) refl

pub remainder_sound : (defined : Bool) (a b : Interval) (m n : ℤ) → in_range m ≡ true → Has a m → Has b n → has (up_remainder defined a b) (slot (remainder m n)) ≡ true
remainder_sound defined a b m n in_m h k =
    row_has defined remainder (integers (clipped (pos 0) (int_min a.hi (b.hi -ℤ pos 1)))) (not (int_le (pos 0) a.lo && int_lt (pos 0) b.lo)) a b m n (remainder_numeric m n) h k (λ w. remainder_has a b m n w in_m h k)

pub remainder_normal : (defined : Bool) (a b : Interval) → is_normal (up_remainder defined a b) ≡ true
remainder_normal defined a b =
    row_normal defined remainder (integers (clipped (pos 0) (int_min a.hi (b.hi -ℤ pos 1)))) (not (int_le (pos 0) a.lo && int_lt (pos 0) b.lo)) a b (remainder_numeric a.lo b.lo) (integers_normal (clipped (pos 0) (int_min a.hi (b.hi -ℤ pos 1))))
