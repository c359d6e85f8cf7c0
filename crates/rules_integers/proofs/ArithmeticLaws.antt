-- The rows by operator: Up has what comes of the operators, and Down keeps what it comes of.
use Rattle.std.proofs.Common.{◌≡◌, ◌∙◌, ℤ, pos, ◌+ℤ◌, ◌-ℤ◌, ◌*ℤ◌, ◌≤ℤ◌, int_le, int_lt, Bool, true, false, not, ◌&&◌, ◌||◌, Some, None, refl, sym, ap, subst, arith}
use Rattle.std.specs.Prelude.{int_rem}
use Rattle.std.specs.Int.{int_min, int_max}
use Rattle.std.specs.Ordering.{int_eq}
use Rattle.std.proofs.lemmas.Int.{ints, clamps}
use Rattle.std.proofs.Math.IntN.{*ℤ_comm}
use Rattle.eb_value.specs.declared.value.Value.{Value}
use Rattle.eb_value.specs.Values.{layer, int}
use Rattle.eb_value.specs.Typing.{in_range}
use Rattle.eb_operations.specs.Arithmetic.{defined_int, quotient, remainder, power}
use Rattle.eb_term.specs.declared.operators.Side.{Side}
use Rattle.eb_term.specs.declared.operators.Side.TheVariants as side
use Rattle.int_dom.specs.declared.interval.Interval.{Interval}
use Rattle.int_dom.specs.Intervals.{Has}
use Rattle.occ_domains.specs.declared.body.Body.TheOpen as body
use Rattle.occ_domains.specs.Bodies.{has_at, integers}
use Rattle.occ_domains.specs.Domains.{has, slot, is_normal}
use Rattle.rules_integers.specs.declared.arithmetic.Arithmetic.{Arithmetic}
use Rattle.rules_integers.specs.declared.arithmetic.Arithmetic.TheVariants as by
use Rattle.rules_integers.specs.Ends.{least, greatest, clipped, within}
use Rattle.rules_integers.specs.Sums.{at_most, down_at_most}
use Rattle.rules_integers.specs.Products.{quotients_by, divisors, has_zero, down_divisor, down_remainder}
use Rattle.rules_integers.specs.Powers.{powers, greatest_power, down_power}
use Rattle.rules_integers.specs.Arithmetic.{value_by, value_at, up_by, down_by}
use Rattle.rules_integers.proofs.RowLaws.{layer-int, clip_between, row_undefined}
use Rattle.rules_integers.proofs.SumLaws.{sum_sound, sum_undefined, sum_normal, sum_left, difference_sound, difference_undefined, difference_normal, difference_left}
use Rattle.rules_integers.proofs.ProductLaws.{product_sound, product_undefined, product_normal}
use Rattle.rules_integers.proofs.QuotientLaws.{down_product_sound, quotient_sound, quotient_normal}
use Rattle.rules_integers.proofs.RemainderLaws.{remainder_between, remainder_sound, remainder_normal}
use Rattle.rules_integers.proofs.PowerLaws.{up_power_has, up_power_normal}

-- ---- Up

pub up_has : (o : Arithmetic) (defined : Bool) (a b : Interval) (m n : ℤ) → in_range m ≡ true → in_range n ≡ true → Has a m → Has b n → has (up_by o defined a b) (slot (value_by o m n)) ≡ true
up_has by.Sum defined a b m n e f h k = sum_sound defined a b m n h k
up_has by.Difference defined a b m n e f h k = difference_sound defined a b m n h k
up_has by.Product defined a b m n e f h k = product_sound defined a b m n h k
up_has by.Quotient defined a b m n e f h k = quotient_sound defined a b m n e f h k
up_has by.Remainder defined a b m n e f h k = remainder_sound defined a b m n e h k
up_has by.Power defined a b m n e f h k = up_power_has a b m n h k defined

pub up_undefined : (o : Arithmetic) (a b : Interval) → has (up_by o false a b) (slot None) ≡ true
up_undefined by.Sum a b = sum_undefined a b
up_undefined by.Difference a b = difference_undefined a b
up_undefined by.Product a b = product_undefined a b
up_undefined by.Quotient a b = row_undefined quotient (quotients_by (within a) (divisors (within b))) (has_zero (within b)) a b
up_undefined by.Remainder a b = row_undefined remainder (integers (clipped (pos 0) (int_min a.hi (b.hi -ℤ pos 1)))) (not (int_le (pos 0) a.lo && int_lt (pos 0) b.lo)) a b
up_undefined by.Power a b = row_undefined power (powers a b) (not (int_le (pos 0) a.lo && int_le (pos 0) b.lo) || int_lt greatest (greatest_power a b)) a b

pub up_normal : (o : Arithmetic) (defined : Bool) (a b : Interval) → is_normal (up_by o defined a b) ≡ true
up_normal by.Sum defined a b = sum_normal defined a b
up_normal by.Difference defined a b = difference_normal defined a b
up_normal by.Product defined a b = product_normal defined a b
up_normal by.Quotient defined a b = quotient_normal defined a b
up_normal by.Remainder defined a b = remainder_normal defined a b
up_normal by.Power defined a b = up_power_normal defined a b

-- ---- Down

low : (m : ℤ) → in_range m ≡ true → least ≤ℤ m
low m e = grind (arith, ints)

high : (m : ℤ) → in_range m ≡ true → m ≤ℤ greatest
high m e = grind (arith, ints)

pub order_left : (s : Side) (truth : Bool) (other : Interval) (m n : ℤ) → in_range m ≡ true → Has other n → at_most s m n ≡ truth → Has (down_at_most s truth other) m
order_left side.First true d m n e h k = clip_between (record { lo = least; hi = d.hi }) m e (low m e, (let l = h.1 in grind (arith, ints)))
order_left side.Second true d m n e h k = clip_between (record { lo = d.lo; hi = greatest }) m e ((let l = h.0 in grind (arith, ints)), high m e)
order_left side.First false d m n e h k = clip_between (record { lo = d.lo +ℤ pos 1; hi = greatest }) m e ((let l = h.0 in grind (arith, ints)), high m e)
order_left side.Second false d m n e h k = clip_between (record { lo = least; hi = d.hi -ℤ pos 1 }) m e (low m e, (let l = h.1 in grind (arith, ints)))

-- the integer that a value is, where it is one of a body's
value_in : (x : ℤ) (v : Value) (whole : Interval) → Some (int x) ≡ Some v → has_at (body.Integers whole) v (layer v) ≡ true → Has whole x
value_in x v whole e h =
    let k : (int_le whole.lo x && int_le x whole.hi) ≡ true = sym (ap (has_at (body.Integers whole) (int x)) (layer-int x)) ∙ subst (λ w. has_at (body.Integers whole) w (layer w) ≡ true) (sym (some_of (int x) v e)) h in
    grind (arith, ints)
  where
    some_of : (p q : Value) → Some p ≡ Some q → p ≡ q
    some_of p q e = cc

record Given (x : ℤ) (whole : Interval) : Type 0 where
  pub in_it : in_range x ≡ true
  pub has_it : Has whole x

defined_in : (x : ℤ) (v : Value) (whole : Interval) → defined_int x ≡ Some v → has_at (body.Integers whole) v (layer v) ≡ true → Given x whole
defined_in x v whole e h = at (in_range x) refl where
  at : (c : Bool) → in_range x ≡ c → Given x whole
  at true f = let k : defined_int x ≡ Some (int x) = rw f refl in record { in_it = f; has_it = value_in x v whole (sym k ∙ e) h }
  at false f = let k : defined_int x ≡ None = rw f refl in let l : None ≡ Some v = sym k ∙ e in cc

sum_swapped : (m n : ℤ) → n +ℤ m ≡ m +ℤ n
sum_swapped m n = omega (arith, ints)

-- what a quotient, a remainder and a power that have a value tell of their sides
divisor_there : (m n : ℤ) (v : Value) → quotient m n ≡ Some v → int_eq n (pos 0) ≡ false
divisor_there m n v e = at (int_eq n (pos 0)) refl where
  at : (c : Bool) → int_eq n (pos 0) ≡ c → int_eq n (pos 0) ≡ false
  at false f = f
  at true f = let k : quotient m n ≡ None = rw f refl in let l : None ≡ Some v = sym k ∙ e in cc

divisor_left : (b : Interval) (n : ℤ) → in_range n ≡ true → Has b n → int_eq n (pos 0) ≡ false → Has (down_divisor b) n
divisor_left b n e h f = let l = h.0 in let u = h.1 in (grind (arith, ints, clamps), grind (arith, ints, clamps))

record Remains (m n : ℤ) (v : Value) : Type 0 where
  pub dividend : pos 0 ≤ℤ m
  pub divisor : pos 1 ≤ℤ n
  pub is : Some (int (int_rem m n)) ≡ Some v

remainder_there : (m n : ℤ) (v : Value) → remainder m n ≡ Some v → Remains m n v
remainder_there m n v e = at (int_le (pos 0) m && int_lt (pos 0) n) refl where
  at : (c : Bool) → (int_le (pos 0) m && int_lt (pos 0) n) ≡ c → Remains m n v
  at true f = let k : remainder m n ≡ Some (int (int_rem m n)) = rw f refl in record { dividend = grind (arith, ints); divisor = grind (arith, ints); is = sym k ∙ e }
  at false f = let k : remainder m n ≡ None = rw f refl in let l : None ≡ Some v = sym k ∙ e in cc

dividend_left : (whole : Interval) (m n : ℤ) (v : Value) → in_range m ≡ true → remainder m n ≡ Some v → has_at (body.Integers whole) v (layer v) ≡ true → Has (down_remainder side.First whole) m
dividend_left whole m n v e f h =
    let r = remainder_there m n v f in
    let within_it = value_in (int_rem m n) v whole r.is h in
    let between = remainder_between m n r.dividend r.divisor in
    clip_between (record { lo = int_max (pos 0) whole.lo; hi = greatest }) m e (omega (arith, ints, clamps, r.dividend, within_it.0, between.1), high m e)

modulus_left : (whole : Interval) (m n : ℤ) (v : Value) → in_range n ≡ true → remainder m n ≡ Some v → has_at (body.Integers whole) v (layer v) ≡ true → Has (down_remainder side.Second whole) n
modulus_left whole m n v e f h =
    let r = remainder_there m n v f in
    let within_it = value_in (int_rem m n) v whole r.is h in
    let between = remainder_between m n r.dividend r.divisor in
    clip_between (record { lo = int_max (pos 1) (whole.lo +ℤ pos 1); hi = greatest }) n e (omega (arith, ints, clamps, r.divisor, within_it.0, between.1), high n e)

power_sides : (m n : ℤ) (v : Value) → power m n ≡ Some v → (int_le (pos 0) m && int_le (pos 0) n) ≡ true
power_sides m n v e = at (int_le (pos 0) m && int_le (pos 0) n) refl where
  at : (c : Bool) → (int_le (pos 0) m && int_le (pos 0) n) ≡ c → (int_le (pos 0) m && int_le (pos 0) n) ≡ true
  at true f = f
  at false f = let k : power m n ≡ None = rw f refl in let l : None ≡ Some v = sym k ∙ e in cc

natural_left : (m : ℤ) → in_range m ≡ true → pos 0 ≤ℤ m → Has down_power m
natural_left m e h = clip_between (record { lo = pos 0; hi = greatest }) m e (h, high m e)

first_natural : (m n : ℤ) → (int_le (pos 0) m && int_le (pos 0) n) ≡ true → pos 0 ≤ℤ m
first_natural m n h = grind (arith, ints)

second_natural : (m n : ℤ) → (int_le (pos 0) m && int_le (pos 0) n) ≡ true → pos 0 ≤ℤ n
second_natural m n h = grind (arith, ints)

pub down_has : (o : Arithmetic) (s : Side) (whole part other : Interval) (m n : ℤ) (v : Value) → in_range m ≡ true → in_range n ≡ true
    → value_at o s m n ≡ Some v → has_at (body.Integers whole) v (layer v) ≡ true → Has part m → Has other n → Has (down_by o s whole part other) m
down_has by.Sum side.First whole part other m n v e f g h j k = let d = defined_in (m +ℤ n) v whole g h in sum_left whole other m n e k d.has_it
down_has by.Sum side.Second whole part other m n v e f g h j k =
    let d = defined_in (n +ℤ m) v whole g h in
    sum_left whole other m n e k (subst (Has whole) (sum_swapped m n) d.has_it)
down_has by.Difference side.First whole part other m n v e f g h j k = let d = defined_in (m -ℤ n) v whole g h in difference_left side.First whole other m n e k d.has_it
down_has by.Difference side.Second whole part other m n v e f g h j k = let d = defined_in (n -ℤ m) v whole g h in difference_left side.Second whole other m n e k d.has_it
down_has by.Product side.First whole part other m n v e f g h j k = let d = defined_in (m *ℤ n) v whole g h in down_product_sound whole other m n e f d.in_it k d.has_it
down_has by.Product side.Second whole part other m n v e f g h j k =
    let d = defined_in (n *ℤ m) v whole g h in
    down_product_sound whole other m n e f (ap in_range (*ℤ_comm m n) ∙ d.in_it) k (subst (Has whole) (*ℤ_comm n m) d.has_it)
down_has by.Quotient side.First whole part other m n v e f g h j k = j
down_has by.Quotient side.Second whole part other m n v e f g h j k = divisor_left part m e j (divisor_there n m v g)
down_has by.Remainder side.First whole part other m n v e f g h j k = dividend_left whole m n v e g h
down_has by.Remainder side.Second whole part other m n v e f g h j k = modulus_left whole n m v e g h
down_has by.Power side.First whole part other m n v e f g h j k = natural_left m e (first_natural m n (power_sides m n v g))
down_has by.Power side.Second whole part other m n v e f g h j k = natural_left m e (second_natural n m (power_sides n m v g))
