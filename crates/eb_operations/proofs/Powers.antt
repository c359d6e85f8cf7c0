-- Powers with an exponent of 63 at least.
use Rattle.std.proofs.Common.{◌≡◌, refl, ℕ, zero, suc, ◌≤◌, ◌<◌, ◌^◌, ℤ, pos, negsuc, ◌≤ℤ◌, ◌<ℤ◌, None, arith, ap}
use Rattle.std.proofs.lemmas.Int.{ints}
use Rattle.std.specs.Prelude.{unsigned_abs}
use Rattle.std.specs.Int.{int_pow}
use Rattle.std.proofs.Math.Nat.{pow-succ', pow-le-pow_left, pow-le-pow_right}
use Rattle.std.proofs.lemmas.Bool.{lt-leb}
use Rattle.eb_operations.specs.Arithmetic.{defined_int}

one_power : (k : ℕ) → 1 ^ k ≡ 1
one_power zero = refl
one_power (suc k) = let e = pow-succ' 1 k in let i = one_power k in grind (arith, e, i)

-- 0 and 1 stay themselves
pub low : (m n : ℤ) → pos 0 ≤ℤ m → m ≤ℤ pos 1 → pos 63 ≤ℤ n → int_pow m (unsigned_abs n) ≡ m
low (pos zero) (pos zero) a b c = let f : ⊥ = omega (arith, ints) in elim f [ ]
low (pos zero) (pos (suc k)) a b c = let e = pow-succ' 0 k in ap pos (grind (arith, e))
low (pos zero) (negsuc k) a b c = let f : ⊥ = omega (arith, ints) in elim f [ ]
low (pos (suc zero)) (pos k) a b c = ap pos (one_power k)
low (pos (suc zero)) (negsuc k) a b c = let f : ⊥ = omega (arith, ints) in elim f [ ]
low (pos (suc (suc m))) n a b c = let f : ⊥ = omega (arith, ints) in elim f [ ]
low (negsuc m) n a b c = let f : ⊥ = omega (arith, ints) in elim f [ ]

above : (a k : ℕ) → 2 ≤ a → 63 ≤ k → 4611686018427387904 < a ^ k
above a k p q = let l = pow-le-pow_left p k in let r = pow-le-pow_right {n = 2} (omega arith) q in grind (arith, l, r)

-- the others leave the range
pub high : (m n : ℤ) → pos 1 <ℤ m → pos 63 ≤ℤ n → defined_int (int_pow m (unsigned_abs n)) ≡ None
high (pos a) (pos k) p q = rw (lt-leb (a ^ k) 4611686018427387904 (above a k (omega (arith, ints)) (omega (arith, ints)))) refl
high (pos a) (negsuc k) p q = let f : ⊥ = omega (arith, ints) in elim f [ ]
high (negsuc m) n p q = let f : ⊥ = omega (arith, ints) in elim f [ ]
