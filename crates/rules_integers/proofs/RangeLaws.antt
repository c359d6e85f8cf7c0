-- Clipped intervals lie within the range, and what saturates is clipped to the same.
use Rattle.std.proofs.Common.{◌≡◌, ◌∙◌, refl, sym, ap, ap₂, Bool, true, false, Option, int_lt, ℤ, pos, negsuc, ◌≤ℤ◌, w64, arith}
use Rattle.std.proofs.lemmas.Int.{ints, clamps}
use Rattle.std.specs.Int.{int_min, int_max, saturate_signed}
use Rattle.eb_value.specs.declared.value.Value.{Value}
use Rattle.eb_value.specs.Typing.{in_range}
use Rattle.int_dom.specs.declared.interval.Interval.{Interval}
use Rattle.rules_integers.specs.Ends.{clip, within, by_span}
use Rattle.rules_integers.specs.Products.{least_of, greatest_of}
use Rattle.rules_integers.specs.steps.Ranges.{IsWithin, saturated}

pub within_is : (d : Interval) → IsWithin (within d)
within_is d = ((omega (arith, ints, clamps), omega (arith, ints, clamps)), (omega (arith, ints, clamps), omega (arith, ints, clamps)))

-- ---- what saturates

abbrev saturate : ℤ → ℤ
saturate = saturate_signed w64

rises : (x y : ℤ) → x ≤ℤ y → saturate x ≤ℤ saturate y
rises (pos x) (pos y) h = omega (arith, ints)
rises (pos x) (negsuc y) h = omega (arith, ints)
rises (negsuc x) (pos y) h = omega (arith, ints)
rises (negsuc x) (negsuc y) h = omega (arith, ints)

saturated_min : (x y : ℤ) → int_min (saturate x) (saturate y) ≡ saturate (int_min x y)
saturated_min x y = at (int_lt y x) refl where
  at : (b : Bool) → int_lt y x ≡ b → int_min (saturate x) (saturate y) ≡ saturate (int_min x y)
  at true e = let h = rises y x (omega (arith, ints)) in rw e (omega (arith, ints, clamps))
  at false e = let h = rises x y (omega (arith, ints)) in rw e (omega (arith, ints, clamps))

saturated_max : (x y : ℤ) → int_max (saturate x) (saturate y) ≡ saturate (int_max x y)
saturated_max x y = at (int_lt y x) refl where
  at : (b : Bool) → int_lt y x ≡ b → int_max (saturate x) (saturate y) ≡ saturate (int_max x y)
  at true e = let h = rises y x (omega (arith, ints)) in rw e (omega (arith, ints, clamps))
  at false e = let h = rises x y (omega (arith, ints)) in rw e (omega (arith, ints, clamps))

pub saturated_least : (k l m n : ℤ) → least_of (saturate k) (saturate l) (saturate m) (saturate n) ≡ saturate (least_of k l m n)
saturated_least k l m n = ap₂ int_min (saturated_min k l) (saturated_min m n) ∙ saturated_min (int_min k l) (int_min m n)

pub saturated_greatest : (k l m n : ℤ) → greatest_of (saturate k) (saturate l) (saturate m) (saturate n) ≡ saturate (greatest_of k l m n)
saturated_greatest k l m n = ap₂ int_max (saturated_max k l) (saturated_max m n) ∙ saturated_max (int_max k l) (int_max m n)

pub clip_saturated : (z : ℤ) → clip (saturate_signed w64 z) ≡ clip z
clip_saturated (pos n) = omega (arith, ints, clamps)
clip_saturated (negsuc n) = omega (arith, ints, clamps)

clip_min : (m n : ℤ) → clip (int_min m n) ≡ int_min (clip m) (clip n)
clip_min m n = omega (arith, ints, clamps)

pub clip_min_saturated : (m z : ℤ) → clip (int_min m (saturate_signed w64 z)) ≡ clip (int_min m z)
clip_min_saturated m z = clip_min m (saturate z) ∙ ap (int_min (clip m)) (clip_saturated z) ∙ sym (clip_min m z)

pub in_range_saturated : (z : ℤ) → in_range (saturate_signed w64 z) ≡ in_range z
in_range_saturated (pos n) = grind (arith, ints)
in_range_saturated (negsuc n) = grind (arith, ints)

pub span_saturated : (defined : Bool) (f : ℤ → ℤ → Option Value) (d a b : Interval) → by_span defined f (saturated d) a b ≡ by_span defined f d a b
span_saturated defined f d a b = rw (clip_saturated d.lo, clip_saturated d.hi, in_range_saturated d.lo, in_range_saturated d.hi) refl

pub within_saturated : (d : Interval) → within (saturated d) ≡ within d
within_saturated d = rw (clip_saturated d.lo, clip_saturated d.hi) refl
