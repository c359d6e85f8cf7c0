-- Intervals that are known by their integers.
use Rattle.std.proofs.Common.{◌≡◌, ◌∙◌, ◌↔◌, Bool, true, false, cond, ap, sym, subst, refl, arith, ℤ, ◌≤ℤ◌, ◌<ℤ◌, Some, None, IsNone, IfSome, true≢false}
use Rattle.std.proofs.lemmas.Int.{ints, clamps}
use Rattle.std.specs.Int.{int_min, int_max}
use Rattle.int_dom.specs.declared.interval.Interval.{Interval}
use Rattle.int_dom.specs.Intervals.{Has, is_empty, is_single, at_most, above, filled}

no_integer : (d : Interval) (n : ℤ) → is_empty d ≡ true → Has d n → ⊥
no_integer d n e (above_lo, below_hi) = grind (arith, ints)

low_end : (d : Interval) → is_empty d ≡ false → Has d d.lo
low_end d e = (grind (arith, ints), grind (arith, ints))

-- filled d, where the test of emptiness has this value
none_by : (d : Interval) (P : ℤ → Type 0) (b : Bool) → is_empty d ≡ b → ((n : ℤ) → Has d n ↔ P n) → IsNone (cond b None (Some d)) ↔ ((n : ℤ) → P n → ⊥)
none_by d P true e same = ((λ none n p. no_integer d n e ((same n).1 p)), λ h. refl)
none_by d P false e same = ((λ none. absurd (true≢false none)), λ h. absurd (h d.lo ((same d.lo).0 (low_end d e))))

some_by : (d : Interval) (P : ℤ → Type 0) (b : Bool) → ((n : ℤ) → Has d n ↔ P n) → IfSome (cond b None (Some d)) (λ e. (n : ℤ) → Has e n ↔ P n)
some_by d P true same = tt
some_by d P false same = same

pub filled_none : (d : Interval) (P : ℤ → Type 0) → ((n : ℤ) → Has d n ↔ P n) → IsNone (filled d) ↔ ((n : ℤ) → P n → ⊥)
filled_none d P same = none_by d P (is_empty d) refl same

pub filled_some : (d : Interval) (P : ℤ → Type 0) → ((n : ℤ) → Has d n ↔ P n) → IfSome (filled d) (λ e. (n : ℤ) → Has e n ↔ P n)
filled_some d P same = some_by d P (is_empty d) same

pub at_most_has : (n : ℤ) (d : Interval) (m : ℤ) → Has (at_most n d) m ↔ (Has d m × (m ≤ℤ n))
at_most_has n d m = ((λ h. ((h.0, omega (arith, ints, clamps, h.1)), omega (arith, ints, clamps, h.1))), λ h. (h.0.0, omega (arith, ints, clamps, h.0.1, h.1)))

pub above_has : (n : ℤ) (d : Interval) (m : ℤ) → Has (above n d) m ↔ (Has d m × (n <ℤ m))
above_has n d m = ((λ h. ((omega (arith, ints, clamps, h.0), h.1), omega (arith, ints, clamps, h.0))), λ h. (omega (arith, ints, clamps, h.0.0, h.1), h.0.1))

pub above_none : (n : ℤ) (d : Interval) → d.hi ≤ℤ n → filled (above n d) ≡ None
above_none n d h = let e : is_empty (above n d) ≡ true = grind (arith, ints, clamps) in rw e refl

abbrev pub common : Interval → Interval → Interval
common a b = record { lo = int_max a.lo b.lo; hi = int_min a.hi b.hi }

pub common_has : (a b : Interval) (n : ℤ) → Has (common a b) n ↔ (Has a n × Has b n)
common_has a b n = (
  λ h. ((omega (arith, ints, clamps, h.0), omega (arith, ints, clamps, h.1)), (omega (arith, ints, clamps, h.0), omega (arith, ints, clamps, h.1))),
  λ h. (omega (arith, ints, clamps, h.0.0, h.1.0), omega (arith, ints, clamps, h.0.1, h.1.1)),
)

-- an interval with one integer
ends_alike : (d : Interval) → is_single d ≡ true → d.lo ≡ d.hi
ends_alike d e = grind (arith, ints)

single_has : (d : Interval) → d.lo ≡ d.hi → (m : ℤ) → Has d m ↔ (m ≡ d.lo)
single_has d e m = ((λ h. omega (arith, ints, h.0, h.1)), λ h. (omega (arith, ints), omega (arith, ints)))

-- the ends of an interval that has n alone are n
alone : (d : Interval) (n : ℤ) → ((m : ℤ) → Has d m ↔ (m ≡ n)) → (n ≡ d.lo) × (is_single d ≡ true)
alone d n only =
    let here : Has d n = (only n).1 refl in
    let low : d.lo ≡ n = (only d.lo).0 (omega (arith, ints), omega (arith, ints, here.0, here.1)) in
    let high : d.hi ≡ n = (only d.hi).0 (omega (arith, ints, here.0, here.1), omega (arith, ints)) in
    (sym low, grind (arith, ints))

by_test : (d : Interval) (n : ℤ) (b : Bool) → is_single d ≡ b → (cond b (Some d.lo) None ≡ Some n) ↔ ((m : ℤ) → Has d m ↔ (m ≡ n))
by_test d n true e = (
  (λ is. let same : d.lo ≡ n = cc in subst (λ z. (m : ℤ) → Has d m ↔ (m ≡ z)) same (single_has d (ends_alike d e))),
  λ only. ap Some (sym (alone d n only).0),
)
by_test d n false e = ((λ is. absurd (cc)), λ only. absurd (true≢false (sym (alone d n only).1 ∙ e)))

pub single_is : (d : Interval) (n : ℤ) → (cond (is_single d) (Some d.lo) None ≡ Some n) ↔ ((m : ℤ) → Has d m ↔ (m ≡ n))
single_is d n = by_test d n (is_single d) refl
