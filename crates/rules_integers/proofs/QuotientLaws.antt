-- Quotients by an interval without 0 lie between the least and the greatest quotient of ends, and the factors of an interval.
use Rattle.std.proofs.Common.{◌≡◌, refl, sym, subst, Bool, true, false, None, ◌&&◌, int_le, int_lt, ℕ, zero, suc, ◌/◌, ◌≤◌, ◌<◌, ℤ, pos, negsuc, neg_ℤ, ◌*ℤ◌, ◌≤ℤ◌, arith}
use Rattle.std.proofs.Math.Nat.{div-mul-le_self, div-le_self, mul-le-mul_left}
use Rattle.std.proofs.Math.IntN.{*ℤ-negsuc}
use Rattle.std.proofs.lemmas.Nat.{le-div, div_below}
use Rattle.std.proofs.lemmas.Int.{ints, clamps}
use Rattle.std.specs.Prelude.{int_div, unsigned_abs, not, ◌||◌}
use Rattle.std.specs.Int.{int_div_euclid}
use Rattle.eb_value.specs.Values.{int}
use Rattle.eb_value.specs.Typing.{in_range}
use Rattle.eb_operations.specs.Arithmetic.{quotient}
use Rattle.int_dom.specs.declared.interval.Interval.{Interval}
use Rattle.std.specs.Ordering.{int_eq}
use Rattle.int_dom.specs.Intervals.{Has, is_single, is_empty}
use Rattle.occ_domains.specs.Bodies as bodies
use Rattle.occ_domains.specs.Domains.{has, has_slot, slot, is_normal}
use Rattle.rules_integers.specs.Ends.{least, greatest, within}
use Rattle.rules_integers.specs.Products.{over_ends, factors, down_product, has_zero, divisors, reach, quotients_by, up_quotient}
use Rattle.rules_integers.proofs.RowLaws.{Numeric, defined_int_numeric, integers_have, integers_normal, normal-empty, clip_between, row_has, row_normal}
use Rattle.rules_integers.proofs.ProductLaws.{Between, ascending, descending, spanned}

-- ---- factors

-- the quotient rounded down is the greatest integer with a product of at most the number
at_most_quotient : (m x : ℤ) (k : ℕ) → (m *ℤ pos (suc k)) ≤ℤ x → m ≤ℤ int_div_euclid x (pos (suc k))
at_most_quotient (pos m) (pos x) k h = let n : m ≤ x / suc k = le-div m x (suc k) (omega arith) (omega (arith, ints)) in omega (arith, ints)
at_most_quotient (pos m) (negsuc x) k h = absurd (omega (arith, ints))
at_most_quotient (negsuc m) (pos x) k h = omega (arith, ints)
at_most_quotient (negsuc m) (negsuc x) k h = let n : x / suc k < suc m = div_below x (suc k) (suc m) (omega arith) (omega (arith, ints)) in omega (arith, ints)

opposite : (m : ℤ) (k : ℕ) → neg_ℤ m *ℤ pos k ≡ neg_ℤ (m *ℤ pos k)
opposite (pos zero) k = omega (arith, ints)
opposite (pos (suc m)) k = omega (arith, ints)
opposite (negsuc m) k = omega (arith, ints)

pub factors_have : (m n : ℤ) (d : Interval) → (n ≡ pos 0 → ⊥) → Has d (m *ℤ n) → Has (factors n d) m
factors_have m (pos zero) d other h = absurd (other refl)
factors_have m (pos (suc k)) d other h =
    let low = at_most_quotient (neg_ℤ m) (neg_ℤ d.lo) k (rw (opposite m (suc k)) (omega (arith, ints, h.0))) in
    let positive : int_lt (pos 0) (pos (suc k)) ≡ true = grind (arith, ints) in
    rw positive (omega (arith, ints), at_most_quotient m d.hi k h.1)
factors_have m (negsuc k) d other h =
    let turned = *ℤ-negsuc m k in
    let low = at_most_quotient (neg_ℤ m) d.hi k (rw (opposite m (suc k)) (omega (arith, ints, h.1))) in
    (omega (arith, ints), at_most_quotient m (neg_ℤ d.lo) k (omega (arith, ints, h.0)))

and_first : (a b : Bool) → (a && b) ≡ true → a ≡ true
and_first true b h = refl
and_first false b h = h

same_end : (d : Interval) (n : ℤ) → is_single d ≡ true → Has d n → d.lo ≡ n
same_end d n e h = grind (arith, ints)

pub down_product_sound : (whole other : Interval) (m n : ℤ) → in_range m ≡ true → in_range n ≡ true → in_range (m *ℤ n) ≡ true → Has other n → Has whole (m *ℤ n) → Has (down_product whole other) m
down_product_sound whole other m n in_m in_n in_product k h = at (is_single (within other) && not (int_eq (within other).lo (pos 0))) refl where
  at : (b : Bool) → (is_single (within other) && not (int_eq (within other).lo (pos 0))) ≡ b → Has (down_product whole other) m
  at true e =
      let same : (within other).lo ≡ n = same_end (within other) n (and_first (is_single (within other)) _ e) (clip_between other n in_n k) in
      let apart : n ≡ pos 0 → ⊥ = λ z. grind (arith, ints) in
      rw e (subst (λ x. Has (factors x (within whole)) m) (sym same) (factors_have m n (within whole) apart (clip_between whole (m *ℤ n) in_product h)))
  at false e = rw e (clip_between (record { lo = least; hi = greatest }) m in_m (grind (arith, ints), grind (arith, ints)))

-- ---- quotients

-- a greater divisor gives less
less_by_more : (a j k : ℕ) → 0 < j → j ≤ k → a / k ≤ a / j
less_by_more a j k p h = le-div (a / k) a j p (omega (arith, div-mul-le_self a k, mul-le-mul_left (a / k) h))

-- a greater number gives more
more_of_more : (a b k : ℕ) → a ≤ b → a / suc k ≤ b / suc k
more_of_more a b k h = le-div (a / suc k) b (suc k) (omega arith) (omega (arith, div-mul-le_self a (suc k)))

by_positive : (a b : ℤ) (k : ℕ) → a ≤ℤ b → int_div a (pos (suc k)) ≤ℤ int_div b (pos (suc k))
by_positive (pos a) (pos b) k h = let n = more_of_more a b k (omega (arith, ints)) in omega (arith, ints)
by_positive (pos a) (negsuc b) k h = absurd (omega (arith, ints))
by_positive (negsuc a) (pos b) k h = omega (arith, ints)
by_positive (negsuc a) (negsuc b) k h = let n = more_of_more (suc b) (suc a) k (omega (arith, ints)) in omega (arith, ints)

by_negative : (a b : ℤ) (k : ℕ) → a ≤ℤ b → int_div b (negsuc k) ≤ℤ int_div a (negsuc k)
by_negative (pos a) (pos b) k h = let n = more_of_more a b k (omega (arith, ints)) in omega (arith, ints)
by_negative (pos a) (negsuc b) k h = absurd (omega (arith, ints))
by_negative (negsuc a) (pos b) k h = omega (arith, ints)
by_negative (negsuc a) (negsuc b) k h = let n = more_of_more (suc b) (suc a) k (omega (arith, ints)) in omega (arith, ints)

-- an interval from x to y hasn't 0
abbrev Misses : ℤ → ℤ → Type 0
Misses x y = (int_le x (pos 0) && int_le (pos 0) y) ≡ false

natural_falls : (a : ℕ) (x y : ℤ) → x ≤ℤ y → Misses x y → int_div (pos a) y ≤ℤ int_div (pos a) x
natural_falls a (pos zero) y h no_zero = absurd (grind (arith, ints))
natural_falls a (pos (suc j)) (pos zero) h no_zero = absurd (omega (arith, ints))
natural_falls a (pos (suc j)) (pos (suc k)) h no_zero = let n = less_by_more a (suc j) (suc k) (omega arith) (omega (arith, ints)) in omega (arith, ints)
natural_falls a (pos (suc j)) (negsuc k) h no_zero = absurd (omega (arith, ints))
natural_falls a (negsuc j) (pos k) h no_zero = absurd (grind (arith, ints))
natural_falls a (negsuc j) (negsuc k) h no_zero = let n = less_by_more a (suc k) (suc j) (omega arith) (omega (arith, ints)) in omega (arith, ints)

negative_rises : (a : ℕ) (x y : ℤ) → x ≤ℤ y → Misses x y → int_div (negsuc a) x ≤ℤ int_div (negsuc a) y
negative_rises a (pos zero) y h no_zero = absurd (grind (arith, ints))
negative_rises a (pos (suc j)) (pos zero) h no_zero = absurd (omega (arith, ints))
negative_rises a (pos (suc j)) (pos (suc k)) h no_zero = let n = less_by_more (suc a) (suc j) (suc k) (omega arith) (omega (arith, ints)) in omega (arith, ints)
negative_rises a (pos (suc j)) (negsuc k) h no_zero = absurd (omega (arith, ints))
negative_rises a (negsuc j) (pos k) h no_zero = absurd (grind (arith, ints))
negative_rises a (negsuc j) (negsuc k) h no_zero = let n = less_by_more (suc a) (suc k) (suc j) (omega arith) (omega (arith, ints)) in omega (arith, ints)

second_between : (m x n y : ℤ) → x ≤ℤ n → n ≤ℤ y → Misses x y → Between (int_div m x) (int_div m n) (int_div m y)
second_between (pos a) x n y h k no_zero = descending _ _ _ (natural_falls a n y k (grind (arith, ints))) (natural_falls a x n h (grind (arith, ints)))
second_between (negsuc a) x n y h k no_zero = ascending _ _ _ (negative_rises a x n h (grind (arith, ints))) (negative_rises a n y k (grind (arith, ints)))

first_between : (x m y n : ℤ) → x ≤ℤ m → m ≤ℤ y → (n ≡ pos 0 → ⊥) → Between (int_div x n) (int_div m n) (int_div y n)
first_between x m y (pos zero) h k other = absurd (other refl)
first_between x m y (pos (suc n)) h k other = ascending _ _ _ (by_positive x m n h) (by_positive m y n k)
first_between x m y (negsuc n) h k other = descending _ _ _ (by_negative m y n k) (by_negative x m n h)

-- the quotient of an integer of each interval, of which the second hasn't 0
pub quotient_spanned : (a b : Interval) (m n : ℤ) → has_zero b ≡ false → Has a m → Has b n → Has (over_ends int_div a b) (int_div m n)
quotient_spanned a b m n no_zero h k =
    let other : n ≡ pos 0 → ⊥ = λ e. grind (arith, ints) in
    spanned int_div a b m n (first_between a.lo m a.hi n h.0 h.1 other) (second_between a.lo b.lo n b.hi k.0 k.1 no_zero) (second_between a.hi b.lo n b.hi k.0 k.1 no_zero)

-- no quotient is farther from 0 than its dividend
nearer : (m n : ℤ) → (neg_ℤ (pos (unsigned_abs m)) ≤ℤ int_div m n) × (int_div m n ≤ℤ pos (unsigned_abs m))
nearer (pos m) (pos n) = let k = div-le_self m n in (omega (arith, ints), omega (arith, ints))
nearer (pos m) (negsuc n) = let k = div-le_self m (suc n) in (omega (arith, ints), omega (arith, ints))
nearer (negsuc m) (pos n) = let k = div-le_self (suc m) n in (omega (arith, ints), omega (arith, ints))
nearer (negsuc m) (negsuc n) = let k = div-le_self (suc m) (suc n) in (omega (arith, ints), omega (arith, ints))

pub quotient_reached : (a : Interval) (m n : ℤ) → Has a m → Has (record { lo = neg_ℤ (reach a); hi = reach a }) (int_div m n)
quotient_reached a m n h = let k = nearer m n in (omega (arith, ints, clamps), omega (arith, ints, clamps))

-- ---- the row

-- the divisors that aren't 0
divisors_have : (d : Interval) (n : ℤ) → Has d n → (n ≡ pos 0 → ⊥) → Has (divisors d) n
divisors_have d n h other = (low (int_eq d.lo (pos 0)) refl, high (int_eq d.hi (pos 0)) refl) where
  low : (b : Bool) → int_eq d.lo (pos 0) ≡ b → (divisors d).lo ≤ℤ n
  low true e = rw e (grind (arith, ints))
  low false e = rw e h.0

  high : (b : Bool) → int_eq d.hi (pos 0) ≡ b → n ≤ℤ (divisors d).hi
  high true e = rw e (grind (arith, ints))
  high false e = rw e h.1

quotients_have : (a b : Interval) (m n : ℤ) → Has a m → Has b n → bodies.has (quotients_by a b) (int (int_div m n)) ≡ true
quotients_have a b m n h k = at (has_zero b) refl where
  filled : is_empty b ≡ false
  filled = grind (arith, ints)

  at : (t : Bool) → has_zero b ≡ t → bodies.has (quotients_by a b) (int (int_div m n)) ≡ true
  at true e = rw (filled, e) (integers_have (record { lo = neg_ℤ (reach a); hi = reach a }) (int_div m n) (quotient_reached a m n h))
  at false e = rw (filled, e) (integers_have (over_ends int_div a b) (int_div m n) (quotient_spanned a b m n e h k))

quotients_normal : (a b : Interval) → bodies.is_normal (quotients_by a b) ≡ true
quotients_normal a b = at (is_empty b) (has_zero b) refl refl where
  at : (s t : Bool) → is_empty b ≡ s → has_zero b ≡ t → bodies.is_normal (quotients_by a b) ≡ true
  at true t e f = rw e normal-empty
  at false true e f = rw (e, f) (integers_normal (record { lo = neg_ℤ (reach a); hi = reach a }))
  at false false e f = rw (e, f) (integers_normal (over_ends int_div a b))

quotient_numeric : (m n : ℤ) → Numeric (quotient m n)
quotient_numeric m n = at (int_eq n (pos 0)) refl where
  at : (b : Bool) → int_eq n (pos 0) ≡ b → Numeric (quotient m n)
  at true e = record { number = None; is = rw e refl }
  at false e = rw e (defined_int_numeric (int_div m n))

quotient_in_range : (m n : ℤ) → in_range m ≡ true → in_range (int_div m n) ≡ true
quotient_in_range m n h = let k = nearer m n in grind (arith, ints)

quotient_has : (a b : Interval) (m n : ℤ) (w : Bool) → in_range m ≡ true → in_range n ≡ true → Has a m → Has b n → has_slot (quotients_by (within a) (divisors (within b))) (has_zero (within b) || w) (quotient m n) ≡ true
quotient_has a b m n w in_m in_n h k = at (int_eq n (pos 0)) refl where
  second : Has (within b) n
  second = clip_between b n in_n k

  at : (t : Bool) → int_eq n (pos 0) ≡ t → has_slot (quotients_by (within a) (divisors (within b))) (has_zero (within b) || w) (quotient m n) ≡ true
  at true e = let zero_in : has_zero (within b) ≡ true = grind (arith, ints, second.0, second.1) in rw (e, zero_in) refl
  at false e =
      let other : n ≡ pos 0 → ⊥ = λ z. grind (arith, ints) in
      rw (e, quotient_in_range m n in_m) (quotients_have (within a) (divisors (within b)) m n (clip_between a m in_m h) (divisors_have (within b) n second other))

pub quotient_sound : (defined : Bool) (a b : Interval) (m n : ℤ) → in_range m ≡ true → in_range n ≡ true → Has a m → Has b n → has (up_quotient defined a b) (slot (quotient m n)) ≡ true
quotient_sound defined a b m n in_m in_n h k =
    row_has defined quotient (quotients_by (within a) (divisors (within b))) (has_zero (within b)) a b m n (quotient_numeric m n) h k (λ w. quotient_has a b m n w in_m in_n h k)

pub quotient_normal : (defined : Bool) (a b : Interval) → is_normal (up_quotient defined a b) ≡ true
quotient_normal defined a b =
    row_normal defined quotient (quotients_by (within a) (divisors (within b))) (has_zero (within b)) a b (quotient_numeric a.lo b.lo) (quotients_normal (within a) (divisors (within b)))
