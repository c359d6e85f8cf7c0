-- Powers of integers from 0 on lie between those of the ends, and Up of `^` has them.
use Rattle.std.proofs.Common.{◌≡◌, ◌∙◌, ℕ, zero, suc, ◌≤◌, ◌^◌, max, ℤ, pos, negsuc, ◌≤ℤ◌, int_le, int_lt, Bool, true, false, not, ◌&&◌, ◌||◌, Option, Some, None, option_map, refl, sym, ap, subst, arith}
use Rattle.std.specs.Option.{unwrap_or}
use Rattle.std.specs.Int.{int_max}
use Rattle.std.proofs.lemmas.Int.{ints}
use Rattle.std.proofs.Math.Nat.{pow-succ', pow-le-pow_left, pow-le-pow_right}
use Rattle.eb_value.specs.declared.value.Value.{Value}
use Rattle.eb_value.specs.Values.{int}
use Rattle.eb_value.specs.Typing.{in_range}
use Rattle.eb_operations.specs.Arithmetic.{defined_int, power}
use Rattle.int_dom.specs.declared.interval.Interval.{Interval}
use Rattle.int_dom.specs.Intervals.{Has}
use Rattle.occ_domains.specs.declared.body.Body.TheVariants as of
use Rattle.occ_domains.specs.declared.domain.Domain.TheVariants as domain
use Rattle.occ_domains.specs.Bodies as bodies
use Rattle.occ_domains.specs.Bodies.{integers}
use Rattle.occ_domains.specs.Domains.{has, slot, is_normal}
use Rattle.rules_integers.specs.Ends.{greatest, clip, clipped}
use Rattle.rules_integers.specs.Powers.{raised, natural, least_power, greatest_power, has_no_power, powers, up_power}
use Rattle.rules_integers.proofs.IntegerLaws.{given, not_given, clip_in, clip_above, or_first, or_second}
use Rattle.rules_integers.proofs.RowLaws.{clip_between, Numeric, defined_int_numeric, normal-empty, integers_have, integers_normal, wider, row_has, row_normal}

-- ---- powers of natural numbers

pow_monotone : (m n p q : ℕ) → 1 ≤ m → m ≤ p → n ≤ q → m ^ n ≤ p ^ q
pow_monotone m n p q one h k =
    let l = pow-le-pow_left h n in
    let r = pow-le-pow_right {n = p} (omega arith) k in
    omega (arith, l, r)

pow_at_most : (m n p q : ℕ) → m ≤ p → n ≤ q → m ^ n ≤ max 1 (p ^ q)
pow_at_most zero zero p q h k = omega arith
pow_at_most zero (suc n) p q h k = let e = pow-succ' 0 n in omega (arith, e)
pow_at_most (suc m) n p q h k = let l = pow_monotone (suc m) n p q (omega arith) h k in omega (arith, l)

-- ---- powers of integers from 0 on

raised_natural : (m n : ℤ) → pos 0 ≤ℤ m → pos 0 ≤ℤ n → pos 0 ≤ℤ raised m n
raised_natural (pos m) (pos n) h k = omega (arith, ints)
raised_natural (pos m) (negsuc n) h k = absurd (omega (arith, ints))
raised_natural (negsuc m) n h k = absurd (omega (arith, ints))

raised_monotone : (m n p q : ℤ) → pos 1 ≤ℤ m → m ≤ℤ p → pos 0 ≤ℤ n → n ≤ℤ q → raised m n ≤ℤ raised p q
raised_monotone (pos m) (pos n) (pos p) (pos q) one h natural_exponent k = let l = pow_monotone m n p q (omega (arith, ints)) (omega (arith, ints)) (omega (arith, ints)) in omega (arith, ints, l)
raised_monotone (pos m) (pos n) (pos p) (negsuc q) one h natural_exponent k = absurd (omega (arith, ints))
raised_monotone (pos m) (pos n) (negsuc p) q one h natural_exponent k = absurd (omega (arith, ints))
raised_monotone (pos m) (negsuc n) p q one h natural_exponent k = absurd (omega (arith, ints))
raised_monotone (negsuc m) n p q one h natural_exponent k = absurd (omega (arith, ints))

raised_at_most : (m n p q : ℤ) → pos 0 ≤ℤ m → m ≤ℤ p → pos 0 ≤ℤ n → n ≤ℤ q → raised m n ≤ℤ int_max (pos 1) (raised p q)
raised_at_most (pos m) (pos n) (pos p) (pos q) low h natural_exponent k = let l = pow_at_most m n p q (omega (arith, ints)) (omega (arith, ints)) in grind (arith, ints, l)
raised_at_most (pos m) (pos n) (pos p) (negsuc q) low h natural_exponent k = absurd (omega (arith, ints))
raised_at_most (pos m) (pos n) (negsuc p) q low h natural_exponent k = absurd (omega (arith, ints))
raised_at_most (pos m) (negsuc n) p q low h natural_exponent k = absurd (omega (arith, ints))
raised_at_most (negsuc m) n p q low h natural_exponent k = absurd (omega (arith, ints))

natural_low : (n : ℤ) → pos 0 ≤ℤ natural n
natural_low n = grind (arith, ints)

natural_above : (n : ℤ) → n ≤ℤ natural n
natural_above n = grind (arith, ints)

natural_least : (m n : ℤ) → m ≤ℤ n → pos 0 ≤ℤ n → natural m ≤ℤ n
natural_least m n h k = grind (arith, ints)

through : (x y z : ℤ) → x ≤ℤ y → y ≤ℤ z → x ≤ℤ z
through x y z h k = omega (arith, ints)

-- ---- the powers of two intervals

max_low : (z : ℤ) → pos 1 ≤ℤ int_max (pos 1) z
max_low z = grind (arith, ints)

greatest_low : (a b : Interval) → pos 1 ≤ℤ greatest_power a b
greatest_low a b = max_low (raised (natural a.hi) (natural b.hi))

zero_or_above : (n : ℤ) → int_le (pos 1) n ≡ true → pos 1 ≤ℤ n
zero_or_above n h = grind (arith, ints)

least_low : (a b : Interval) → pos 0 ≤ℤ least_power a b
least_low a b = at (int_le (pos 1) a.lo) refl where
  at : (c : Bool) → int_le (pos 1) a.lo ≡ c → pos 0 ≤ℤ least_power a b
  at true e = rw e (raised_natural a.lo (natural b.lo) (through (pos 0) (pos 1) a.lo (omega (arith, ints)) (zero_or_above a.lo e)) (natural_low b.lo))
  at false e = rw e (omega (arith, ints))

module _ (a b : Interval) (m n : ℤ) (low : pos 0 ≤ℤ m) (natural_exponent : pos 0 ≤ℤ n) (p : Has a m) (q : Has b n) where
  above_least : least_power a b ≤ℤ raised m n
  above_least = at (int_le (pos 1) a.lo) refl where
    at : (c : Bool) → int_le (pos 1) a.lo ≡ c → least_power a b ≤ℤ raised m n
    at true e = rw e (raised_monotone a.lo (natural b.lo) m n (zero_or_above a.lo e) p.0 (natural_low b.lo) (natural_least b.lo n q.0 natural_exponent))
    at false e = rw e (raised_natural m n low natural_exponent)

  below_greatest : raised m n ≤ℤ greatest_power a b
  below_greatest = raised_at_most m n (natural a.hi) (natural b.hi) low (through m a.hi (natural a.hi) p.1 (natural_above a.hi)) natural_exponent (through n b.hi (natural b.hi) q.1 (natural_above b.hi))

-- ---- the code's powers

power_is : (m n : ℤ) → pos 0 ≤ℤ m → pos 0 ≤ℤ n → power m n ≡ defined_int (raised m n)
power_is m n low natural_exponent = let e : int_le (pos 0) m ≡ true = grind (arith, ints) in let f : int_le (pos 0) n ≡ true = grind (arith, ints) in rw (e, f) refl

power_numeric : (m n : ℤ) → Numeric (power m n)
power_numeric m n = at (int_le (pos 0) m && int_le (pos 0) n) refl where
  at : (c : Bool) → (int_le (pos 0) m && int_le (pos 0) n) ≡ c → Numeric (power m n)
  at true e = rw e (defined_int_numeric (raised m n))
  at false e = record { number = None; is = rw e refl }

natural_power : (m n : ℤ) → power (natural m) (natural n) ≡ defined_int (raised (natural m) (natural n))
natural_power m n = power_is (natural m) (natural n) (natural_low m) (natural_low n)

one_at_least : (z : ℤ) → in_range z ≡ true → in_range (int_max (pos 1) z) ≡ true
one_at_least z h = grind (arith, ints)

still_beyond : (z : ℤ) → pos 0 ≤ℤ z → in_range z ≡ false → in_range (int_max (pos 1) z) ≡ false
still_beyond z low h = grind (arith, ints)

max_swapped : (h z : ℤ) → h ≡ z → int_max h (pos 1) ≡ int_max (pos 1) z
max_swapped h z e = grind (arith, ints)

module _ (a b : Interval) (p q : ℤ) (first : p ≡ natural a.hi) (second : q ≡ natural b.hi) where
  upper_power : power p q ≡ defined_int (raised (natural a.hi) (natural b.hi))
  upper_power = rw (first, second) (natural_power a.hi b.hi)

  pub highest_some : (h r : ℤ) → Some (int h) ≡ power p q → r ≡ int_max h (pos 1) → Some (int r) ≡ defined_int (greatest_power a b)
  highest_some h r e f =
      let z = raised (natural a.hi) (natural b.hi) in
      let k = given h z (e ∙ upper_power) in
      rw (one_at_least z k.0) (ap (λ n. Some (int n)) (f ∙ max_swapped h z k.1))

  pub highest_none : None ≡ power p q → None ≡ defined_int (greatest_power a b)
  highest_none e =
      let z = raised (natural a.hi) (natural b.hi) in
      let low = raised_natural (natural a.hi) (natural b.hi) (natural_low a.hi) (natural_low b.hi) in
      rw (still_beyond z low (not_given z (e ∙ upper_power))) refl

not_beyond : (z : ℤ) → in_range z ≡ true → int_lt greatest z ≡ false
not_beyond z h = grind (arith, ints)

upper_end : (o : Option ℤ) (z : ℤ) → pos 1 ≤ℤ z → option_map int o ≡ defined_int z → unwrap_or o greatest ≡ clip z
upper_end (Some h) z low e = let k = given h z e in k.1 ∙ sym (clip_in z k.0)
upper_end None z low e = sym (clip_above z (not_given z e) (through (pos 0) (pos 1) z (omega (arith, ints)) low))

ends_are : (l h m k : ℤ) → l ≡ m → h ≡ k → Path Interval (record { lo = l; hi = h }) (record { lo = m; hi = k })
ends_are l h m k e f = rw (e, f) refl

module _ (a b : Interval) where
  has_power : int_lt a.hi (pos 0) ≡ false → int_lt b.hi (pos 0) ≡ false → in_range (least_power a b) ≡ true → has_no_power a b ≡ false
  has_power first second low = rw (first, second, not_beyond (least_power a b) low) refl

  powers_are : has_no_power a b ≡ false → powers a b ≡ integers (clipped (least_power a b) (greatest_power a b))
  powers_are e = rw e refl

  pub powers_some : (l h : ℤ) (o : Option ℤ) → int_lt a.hi (pos 0) ≡ false → int_lt b.hi (pos 0) ≡ false → Some (int l) ≡ defined_int (least_power a b)
      → option_map int o ≡ defined_int (greatest_power a b) → h ≡ unwrap_or o greatest → integers (record { lo = l; hi = h }) ≡ powers a b
  powers_some l h o first second e f g =
      let k = given l (least_power a b) e in
      ap integers (ends_are l h (clip (least_power a b)) (clip (greatest_power a b)) (k.1 ∙ sym (clip_in (least_power a b) k.0)) (g ∙ upper_end o (greatest_power a b) (greatest_low a b) f))
      ∙ sym (powers_are (has_power first second k.0))

-- ---- Up

no_power : (m n : ℤ) → (int_le (pos 0) m && int_le (pos 0) n) ≡ false → power m n ≡ None
no_power m n e = rw e refl

negative_side : (k l m n : ℤ) → k ≤ℤ m → l ≤ℤ n → (int_le (pos 0) m && int_le (pos 0) n) ≡ false → not (int_le (pos 0) k && int_le (pos 0) l) ≡ true
negative_side k l m n h i e = grind (arith, ints)

left_low : (m n : ℤ) → (int_le (pos 0) m && int_le (pos 0) n) ≡ true → pos 0 ≤ℤ m
left_low m n h = grind (arith, ints)

right_low : (m n : ℤ) → (int_le (pos 0) m && int_le (pos 0) n) ≡ true → pos 0 ≤ℤ n
right_low m n h = grind (arith, ints)

beyond_greatest : (y z : ℤ) → pos 0 ≤ℤ y → y ≤ℤ z → in_range y ≡ false → int_lt greatest z ≡ true
beyond_greatest y z low h e = grind (arith, ints)

not_negative : (m hi : ℤ) → pos 0 ≤ℤ m → m ≤ℤ hi → int_lt hi (pos 0) ≡ false
not_negative m hi low h = grind (arith, ints)

smaller_in : (x y : ℤ) → pos 0 ≤ℤ x → x ≤ℤ y → in_range y ≡ true → in_range x ≡ true
smaller_in x y low h e = grind (arith, ints)

module _ (a b : Interval) (m n : ℤ) (p : Has a m) (q : Has b n) where
  abbrev undefined : Bool
  undefined = not (int_le (pos 0) a.lo && int_le (pos 0) b.lo) || int_lt greatest (greatest_power a b)

  abbrev Held : Option Value → Type 0
  Held s = has (domain.Values (powers a b) undefined) (slot s) ≡ true

  module _ (low : pos 0 ≤ℤ m) (natural_exponent : pos 0 ≤ℤ n) where
    in_powers : in_range (raised m n) ≡ true → Held (Some (int (raised m n)))
    in_powers e =
        let above = above_least a b m n low natural_exponent p q in
        let below = below_greatest a b m n low natural_exponent p q in
        let small = smaller_in (least_power a b) (raised m n) (least_low a b) above e in
        let none = has_power a b (not_negative m a.hi low p.1) (not_negative n b.hi natural_exponent q.1) small in
        ap (λ d. bodies.has d (int (raised m n))) (powers_are a b none)
        ∙ integers_have (clipped (least_power a b) (greatest_power a b)) (raised m n) (clip_between (record { lo = least_power a b; hi = greatest_power a b }) (raised m n) e (above, below))

    beyond_powers : in_range (raised m n) ≡ false → undefined ≡ true
    beyond_powers e = or_second (not (int_le (pos 0) a.lo && int_le (pos 0) b.lo)) (int_lt greatest (greatest_power a b))
        (beyond_greatest (raised m n) (greatest_power a b) (raised_natural m n low natural_exponent) (below_greatest a b m n low natural_exponent p q) e)

    raised_held : Held (defined_int (raised m n))
    raised_held = at (in_range (raised m n)) refl where
      at : (c : Bool) → in_range (raised m n) ≡ c → Held (defined_int (raised m n))
      at true e = let k : defined_int (raised m n) ≡ Some (int (raised m n)) = rw e refl in subst Held (sym k) (in_powers e)
      at false e = let k : defined_int (raised m n) ≡ None = rw e refl in subst Held (sym k) (beyond_powers e)

  power_held : Held (power m n)
  power_held = at (int_le (pos 0) m && int_le (pos 0) n) refl where
    at : (c : Bool) → (int_le (pos 0) m && int_le (pos 0) n) ≡ c → Held (power m n)
    at true e =
        let low = left_low m n e in
        let natural_exponent = right_low m n e in
        subst Held (sym (power_is m n low natural_exponent)) (raised_held low natural_exponent)
    at false e =
        subst Held (sym (no_power m n e))
        (or_first (not (int_le (pos 0) a.lo && int_le (pos 0) b.lo)) (int_lt greatest (greatest_power a b)) (negative_side a.lo b.lo m n p.0 q.0 e))

  pub up_power_has : (defined : Bool) → has (up_power defined a b) (slot (power m n)) ≡ true
  up_power_has defined = row_has defined power (powers a b) undefined a b m n (power_numeric m n) p q (wider (powers a b) undefined (power m n) power_held)

powers_normal : (a b : Interval) → bodies.is_normal (powers a b) ≡ true
powers_normal a b = at (has_no_power a b) refl where
  at : (c : Bool) → has_no_power a b ≡ c → bodies.is_normal (powers a b) ≡ true
  at true e = let k : powers a b ≡ of.Empty = rw e refl in ap bodies.is_normal k ∙ normal-empty
  at false e = ap bodies.is_normal (powers_are a b e) ∙ integers_normal (clipped (least_power a b) (greatest_power a b))

pub up_power_normal : (defined : Bool) (a b : Interval) → is_normal (up_power defined a b) ≡ true
up_power_normal defined a b =
    row_normal defined power (powers a b) (not (int_le (pos 0) a.lo && int_le (pos 0) b.lo) || int_lt greatest (greatest_power a b)) a b (power_numeric a.lo b.lo) (powers_normal a b)
