-- Which slots a row of two intervals has, and that it is in normal form.
use Rattle.std.proofs.Common.{rules, ◌≡◌, refl, Bool, true, false, not, ◌&&◌, ◌||◌, ℤ, int_le, ◌≤ℤ◌, Option, Some, None, arith}
use Rattle.std.specs.Prelude.{option_map}
use Rattle.std.proofs.lemmas.Int.{ints, clamps}
use Rattle.eb_value.specs.declared.value.Value.{Value}
use Rattle.eb_value.specs.declared.value.Value as value_module
use Rattle.eb_value.specs.declared.value.Form.TheOpen as val
use Rattle.eb_value.specs.Values.{layer, int}
use Rattle.eb_value.specs.Typing.{in_range}
use Rattle.eb_operations.specs.Arithmetic.{defined_int}
use Rattle.int_dom.specs.declared.interval.Interval.{Interval}
use Rattle.int_dom.specs.Intervals.{Has, is_single, is_empty}
use Rattle.occ_domains.specs.declared.body.Body.{Body, the_lemmas}
use Rattle.occ_domains.specs.declared.body.Body.TheVariants as of
use Rattle.occ_domains.specs.Bodies as bodies
use Rattle.occ_domains.specs.Bodies.{integers, exactly}
use Rattle.occ_domains.specs.Domains.{has, has_slot, slot, is_normal, only}
use Rattle.rules_integers.specs.Ends.{least, greatest, clipped, is_spread, by_ends, by_span}

-- ---- bodies of integers

pub layer-int : (n : ℤ) → layer (int n) ≡ val.Int n
layer-int n = search (rules, value_module.the_lemmas)

has-integers : (d : Interval) (n : ℤ) → bodies.has (of.Integers d) (int n) ≡ (int_le d.lo n && int_le n d.hi)
has-integers d n = search (rules, the_lemmas, layer-int)

exactly-int : (n : ℤ) → exactly (int n) ≡ of.Integers (record { lo = n; hi = n })
exactly-int n = search (rules, value_module.the_lemmas)

pub normal-empty : bodies.is_normal of.Empty ≡ true
normal-empty = search (rules, the_lemmas)

normal-integers : (d : Interval) → is_empty d ≡ false → bodies.is_normal (of.Integers d) ≡ true
normal-integers d e = search (rules, the_lemmas)

pub integers_have : (d : Interval) (n : ℤ) → Has d n → bodies.has (integers d) (int n) ≡ true
integers_have d n h = let filled : is_empty d ≡ false = grind (arith, ints) in rw (filled, has-integers d n) (grind (arith, ints))

pub integers_normal : (d : Interval) → bodies.is_normal (integers d) ≡ true
integers_normal d = at (is_empty d) refl where
  at : (b : Bool) → is_empty d ≡ b → bodies.is_normal (integers d) ≡ true
  at true e = rw e normal-empty
  at false e = rw e (normal-integers d e)

-- ---- the domain of one outcome

-- the value, if there is one, is an integer
pub record Numeric (value : Option Value) : Type 0 where
  pub number : Option ℤ
  pub is : value ≡ option_map int number

only_has : (p : Option ℤ) → has (only (option_map int p)) (slot (option_map int p)) ≡ true
only_has None = refl
only_has (Some n) = rw (exactly-int n, has-integers (record { lo = n; hi = n }) n) (grind (arith, ints))

only_normal : (p : Option ℤ) → is_normal (only (option_map int p)) ≡ true
only_normal None = normal-empty
only_normal (Some n) = rw (exactly-int n) (normal-integers (record { lo = n; hi = n }) (grind (arith, ints)))

one_has : (value : Option Value) → Numeric value → has (only value) (slot value) ≡ true
one_has value number = rw number.is (only_has number.number)

pub defined_int_numeric : (n : ℤ) → Numeric (defined_int n)
defined_int_numeric n = at (in_range n) refl where
  at : (b : Bool) → in_range n ≡ b → Numeric (defined_int n)
  at true e = record { number = Some n; is = rw e refl }
  at false e = record { number = None; is = rw e refl }

-- ---- rows

or_left : (b c : Bool) → b ≡ true → (b || c) ≡ true
or_left true c h = refl
or_left false c h = cc

-- Undefined stays, where more may be
pub wider : (b : Body) (u : Bool) (s : Option Value) → has_slot b u s ≡ true → (w : Bool) → has_slot b (u || w) s ≡ true
wider b u None h w = or_left u w h
wider b u (Some v) h w = h

pub row_has : (defined : Bool) (f : ℤ → ℤ → Option Value) (body : Body) (u : Bool) (a b : Interval) (m n : ℤ) → Numeric (f m n) → Has a m → Has b n → ((w : Bool) → has_slot body (u || w) (f m n) ≡ true) → has (by_ends defined f body u a b) (slot (f m n)) ≡ true
row_has defined f body u a b m n number h k has_it = at (defined && is_single a && is_single b) refl where
  at : (t : Bool) → (defined && is_single a && is_single b) ≡ t → has (by_ends defined f body u a b) (slot (f m n)) ≡ true
  at true e =
      let first : a.lo ≡ m = grind (arith, ints) in
      let second : b.lo ≡ n = grind (arith, ints) in
      rw (e, first, second) (one_has (f m n) number)
  at false e = rw e (has_it (not defined))

or_true : (b : Bool) → (b || true) ≡ true
or_true true = refl
or_true false = refl

pub row_undefined : (f : ℤ → ℤ → Option Value) (body : Body) (u : Bool) (a b : Interval) → has (by_ends false f body u a b) (slot None) ≡ true
row_undefined f body u a b = or_true u

pub row_normal : (defined : Bool) (f : ℤ → ℤ → Option Value) (body : Body) (u : Bool) (a b : Interval) → Numeric (f a.lo b.lo) → bodies.is_normal body ≡ true → is_normal (by_ends defined f body u a b) ≡ true
row_normal defined f body u a b number h = at (defined && is_single a && is_single b) refl where
  at : (t : Bool) → (defined && is_single a && is_single b) ≡ t → is_normal (by_ends defined f body u a b) ≡ true
  at true e = rw (e, number.is) (only_normal number.number)
  at false e = rw e h

pub clip_between : (d : Interval) (z : ℤ) → in_range z ≡ true → Has d z → Has (clipped d.lo d.hi) z
clip_between d z e h =
    let low : least ≤ℤ z = grind (arith, ints) in
    let high : z ≤ℤ greatest = grind (arith, ints) in
    (omega (arith, ints, clamps), omega (arith, ints, clamps))

-- an integer of an interval is one of the clipped interval, or an end of it lies beyond the range
pub clipped_has : (d : Interval) (z : ℤ) (w : Bool) → Has d z → has_slot (integers (clipped d.lo d.hi)) (is_spread d.lo d.hi || w) (defined_int z) ≡ true
clipped_has d z w h = at (in_range z) refl where
  at : (b : Bool) → in_range z ≡ b → has_slot (integers (clipped d.lo d.hi)) (is_spread d.lo d.hi || w) (defined_int z) ≡ true
  at true e = rw e (integers_have (clipped d.lo d.hi) z (clip_between d z e h))
  at false e = let beyond : is_spread d.lo d.hi ≡ true = grind (arith, ints) in rw (e, beyond) refl

-- ---- rows by an interval

module _ (g : ℤ → ℤ → ℤ) (d a b : Interval) where
  pub span_has : (defined : Bool) (m n : ℤ) → Has a m → Has b n → Has d (g m n) → has (by_span defined (λ p q. defined_int (g p q)) d a b) (slot (defined_int (g m n))) ≡ true
  span_has defined m n h k j =
      row_has defined (λ p q. defined_int (g p q)) (integers (clipped d.lo d.hi)) (is_spread d.lo d.hi) a b m n (defined_int_numeric (g m n)) h k (λ w. clipped_has d (g m n) w j)

  pub span_undefined : has (by_span false (λ p q. defined_int (g p q)) d a b) (slot None) ≡ true
  span_undefined = row_undefined (λ p q. defined_int (g p q)) (integers (clipped d.lo d.hi)) (is_spread d.lo d.hi) a b

  pub span_normal : (defined : Bool) → is_normal (by_span defined (λ p q. defined_int (g p q)) d a b) ≡ true
  span_normal defined =
      row_normal defined (λ p q. defined_int (g p q)) (integers (clipped d.lo d.hi)) (is_spread d.lo d.hi) a b (defined_int_numeric (g a.lo b.lo)) (integers_normal (clipped d.lo d.hi))
