-- What the laws of the rules rest on: which values bodies have, the order of values, and the rows of integers.
use Rattle.std.proofs.Common.{◌≡◌, ◌∙◌, ℤ, Bool, true, false, ◌&&◌, ◌||◌, Some, None, refl, sym, ap}
use Rattle.std.specs.declared.cmp.Ordering.{Ordering}
use Rattle.std.specs.Ordering.{is_eq}
use Rattle.std.specs.declared.cmp.Ordering.TheVariants.{Less, Equal, Greater}
use Rattle.eb_value.specs.declared.value.Value.{Value}
use Rattle.eb_value.specs.Values.{compare, layer}
use Rattle.eb_value.specs.Typing.{in_range}
use Rattle.eb_value.specs.Comprehensions.{same}
use Rattle.eb_term.specs.declared.operators.Side.{Side}
use Rattle.int_dom.specs.declared.interval.Interval.{Interval}
use Rattle.int_dom.specs.Intervals.{Has}
use Rattle.occ_domains.specs.declared.body.Body.{Body, out-Body}
use Rattle.occ_domains.specs.declared.body.Body.TheOpen as body
use Rattle.occ_domains.specs.Bodies.{has, has_at, is_empty, is_normal, meet, single, without, integers, pairs}
use Rattle.occ_domains.specs.Domains as domains
use Rattle.rules_integers.specs.declared.arithmetic.Arithmetic.{Arithmetic}
use Rattle.rules_integers.specs.Sums.{at_most, down_at_most}
use Rattle.rules_integers.specs.Arithmetic.{value_by, value_at, up_by, down_by}

-- which values bodies have
pub record Bodies : Type 0 where
  pub layers : (b : Body) (v : Value) → has b v ≡ has_at (out-Body b) v (layer v)
  pub pairs : (a b : Body) (v : Value) → has (pairs a b) v ≡ has_at (body.Pairs a b) v (layer v)
  pub integers : (d : Interval) (v : Value) → has (integers d) v ≡ has_at (body.Integers d) v (layer v)
  pub meet : (a b : Body) (v : Value) → has (meet a b) v ≡ (has a v && has b v)
  pub none : (b : Body) (v : Value) → is_empty b ≡ true → has b v ≡ false
  pub single : (b : Body) (v w : Value) → single b ≡ Some v → has b w ≡ true → w ≡ v
  pub without : (b : Body) (v w : Value) → has b v ≡ true → same v w ≡ false → has (without b w) v ≡ true

-- which bodies are in normal form
pub record Normals : Type 0 where
  pub meet : (a b : Body) → is_normal a ≡ true → is_normal (meet a b) ≡ true
  pub integers : (d : Interval) → is_normal (integers d) ≡ true
  pub pairs : (a b : Body) → is_normal a ≡ true → is_normal b ≡ true → is_normal (pairs a b) ≡ true
  pub parts : (b x y : Body) → is_normal b ≡ true → out-Body b ≡ body.Pairs x y → (is_normal x ≡ true) × (is_normal y ≡ true)
  pub without : (b : Body) (v : Value) → is_normal b ≡ true → is_normal (without b v) ≡ true

-- the order tells values apart
pub record Order : Type 0 where
  pub reflexive : (v : Value) → compare v v ≡ Equal
  pub exact : (v w : Value) → compare v w ≡ Equal → v ≡ w

-- the rows of integers
pub record Integers : Type 0 where
  pub at_most : (s : Side) (truth : Bool) (other : Interval) (m n : ℤ) → in_range m ≡ true → Has other n → at_most s m n ≡ truth → Has (down_at_most s truth other) m
  pub up : (o : Arithmetic) (defined : Bool) (a b : Interval) (m n : ℤ) → in_range m ≡ true → in_range n ≡ true → Has a m → Has b n
      → domains.has (up_by o defined a b) (domains.slot (value_by o m n)) ≡ true
  pub undefined : (o : Arithmetic) (a b : Interval) → domains.has (up_by o false a b) (domains.slot None) ≡ true
  pub down : (o : Arithmetic) (s : Side) (whole part other : Interval) (m n : ℤ) (v : Value) → in_range m ≡ true → in_range n ≡ true
      → value_at o s m n ≡ Some v → has_at (body.Integers whole) v (layer v) ≡ true → Has part m → Has other n → Has (down_by o s whole part other) m
  pub normal : (o : Arithmetic) (defined : Bool) (a b : Interval) → domains.is_normal (up_by o defined a b) ≡ true

-- ---- small laws

pub first_true : (b c : Bool) → (b && c) ≡ true → b ≡ true
first_true true c h = refl
first_true false c h = h

pub second_true : (b c : Bool) → (b && c) ≡ true → c ≡ true
second_true true c h = h
second_true false c h = cc

pub both_true : (b c : Bool) → b ≡ true → c ≡ true → (b && c) ≡ true
both_true true c h k = k
both_true false c h k = h

pub or_first : (b c : Bool) → b ≡ true → (b || c) ≡ true
or_first true c h = refl
or_first false c h = cc

pub or_second : (b c : Bool) → c ≡ true → (b || c) ≡ true
or_second true c h = refl
or_second false c h = h

pub some_of : {A : Type 0} (x y : A) → Some x ≡ Some y → x ≡ y
some_of x y e = cc

equal_is : (o : Ordering) → is_eq o ≡ true → o ≡ Equal
equal_is Equal h = refl
equal_is Less h = cc
equal_is Greater h = cc

module _ (order : Order) where
  pub same_is : (v w : Value) → same v w ≡ true → v ≡ w
  same_is v w h = order.exact v w (equal_is (compare v w) h)

  pub is_same : (v : Value) → same v v ≡ true
  is_same v = ap is_eq (order.reflexive v)

  pub apart : (v w : Value) → same w v ≡ false → same v w ≡ false
  apart v w h = at (same v w) refl where
    at : (b : Bool) → same v w ≡ b → same v w ≡ false
    at false e = e
    at true e =
        let k : false ≡ true = sym h ∙ ap (λ z. same w z) (same_is v w e) ∙ is_same w in
        cc

  pub turned : (v w : Value) → same w v ≡ same v w
  turned v w = at (same w v) refl where
    at : (b : Bool) → same w v ≡ b → same w v ≡ same v w
    at false e = e ∙ sym (apart v w e)
    at true e = e ∙ sym (ap (same v) (same_is w v e) ∙ is_same v)
