-- Products of integers of two intervals lie between the least and the greatest product of ends.
use Rattle.std.proofs.Common.{◌≡◌, Bool, true, false, None, ℕ, suc, ℤ, pos, negsuc, ◌*ℤ◌, ◌≤ℤ◌, arith}
use Rattle.std.proofs.Math.Nat.{mul-le-mul_right}
use Rattle.std.proofs.Math.IntN.{*ℤ_comm}
use Rattle.std.proofs.lemmas.Int.{ints, clamps}
use borrow.Author.Differences.{le_out}
use Rattle.std.specs.Int.{int_min, int_max}
use Rattle.int_dom.specs.declared.interval.Interval.{Interval}
use Rattle.int_dom.specs.Intervals.{Has}
use Rattle.occ_domains.specs.Domains.{has, slot, is_normal}
use Rattle.rules_integers.specs.Products.{over_ends, product, up_product}
use Rattle.rules_integers.proofs.RowLaws.{span_has, span_undefined, span_normal}

-- y lies between x and z, whichever is the greater
pub record Between (x y z : ℤ) : Type 0 where
  pub above : int_min x z ≤ℤ y
  pub below : y ≤ℤ int_max x z

pub ascending : (x y z : ℤ) → x ≤ℤ y → y ≤ℤ z → Between x y z
ascending x y z a b = record { above = omega (arith, ints, clamps); below = omega (arith, ints, clamps) }

pub descending : (x y z : ℤ) → z ≤ℤ y → y ≤ℤ x → Between x y z
descending x y z a b = record { above = omega (arith, ints, clamps); below = omega (arith, ints, clamps) }

-- what lies between two values, each of which lies between two more, lies between the least and the greatest of the four
pub spanned : (f : ℤ → ℤ → ℤ) (a b : Interval) (m n : ℤ) → Between (f a.lo n) (f m n) (f a.hi n) → Between (f a.lo b.lo) (f a.lo n) (f a.lo b.hi) → Between (f a.hi b.lo) (f a.hi n) (f a.hi b.hi) → Has (over_ends f a b) (f m n)
spanned f a b m n e l h = (omega (arith, ints, clamps, e.above, l.above, h.above), omega (arith, ints, clamps, e.below, l.below, h.below))

-- ---- products

by_natural : (a b : ℤ) (k : ℕ) → a ≤ℤ b → (a *ℤ pos k) ≤ℤ (b *ℤ pos k)
by_natural a b k h = let up_down = mul-le-mul_right k (le_out a b h) in omega (arith, ints)

by_negative : (a b : ℤ) (k : ℕ) → a ≤ℤ b → (b *ℤ negsuc k) ≤ℤ (a *ℤ negsuc k)
by_negative a b k h = let up_down = mul-le-mul_right (suc k) (le_out a b h) in omega (arith, ints)

pub first_between : (x m y n : ℤ) → x ≤ℤ m → m ≤ℤ y → Between (x *ℤ n) (m *ℤ n) (y *ℤ n)
first_between x m y (pos k) a b = ascending _ _ _ (by_natural x m k a) (by_natural m y k b)
first_between x m y (negsuc k) a b = descending _ _ _ (by_negative m y k b) (by_negative x m k a)

pub second_between : (m x n y : ℤ) → x ≤ℤ n → n ≤ℤ y → Between (m *ℤ x) (m *ℤ n) (m *ℤ y)
second_between m x n y a b = rw (*ℤ_comm m x, *ℤ_comm m n, *ℤ_comm m y) (first_between x n y m a b)

-- the product of an integer of each interval
pub product_spanned : (a b : Interval) (m n : ℤ) → Has a m → Has b n → Has (over_ends (λ p q. p *ℤ q) a b) (m *ℤ n)
product_spanned a b m n h k = spanned (λ p q. p *ℤ q) a b m n (first_between a.lo m a.hi n h.0 h.1) (second_between a.lo b.lo n b.hi k.0 k.1) (second_between a.hi b.lo n b.hi k.0 k.1)

pub product_sound : (defined : Bool) (a b : Interval) (m n : ℤ) → Has a m → Has b n → has (up_product defined a b) (slot (product m n)) ≡ true
product_sound defined a b m n h k = span_has (λ p q. p *ℤ q) (over_ends (λ p q. p *ℤ q) a b) a b defined m n h k (product_spanned a b m n h k)

pub product_undefined : (a b : Interval) → has (up_product false a b) (slot None) ≡ true
product_undefined a b = span_undefined (λ p q. p *ℤ q) (over_ends (λ p q. p *ℤ q) a b) a b

pub product_normal : (defined : Bool) (a b : Interval) → is_normal (up_product defined a b) ≡ true
product_normal defined a b = span_normal (λ p q. p *ℤ q) (over_ends (λ p q. p *ℤ q) a b) a b defined
