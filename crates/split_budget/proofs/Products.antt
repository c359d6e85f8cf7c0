-- Products of natural numbers, one for each element of a list.
use Rattle.std.proofs.Common.{◌≡◌, ◌≢◌, ◌∙◌, refl, sym, ap₂, subst, ℕ, suc, ◌+◌, ◌*◌, ◌≤◌, ◌<◌, List, [], ◌∷◌, length, Bool, true, false, nat_eq, arith}
use Rattle.std.proofs.Math.Nat.{le_refl, mul-le-mul, mul-le-mul_left, mul-le-mul_right, one-le-mul, add-mul, mul-add}

-- the product of the numbers from a place on, one for each element
abbrev pub product_from : {A : Type 0} → (ℕ → ℕ) → ℕ → List A → ℕ
product_from f k [] = 1
product_from f k (x ∷ xs) = f k * product_from f (suc k) xs

pub product_less : {A : Type 0} (f g : ℕ → ℕ) (k : ℕ) (xs : List A) → ((j : ℕ) → j < k + length xs → f j ≤ g j) → product_from f k xs ≤ product_from g k xs
product_less f g k [] h = le_refl 1
product_less f g k (x ∷ xs) h = mul-le-mul (h k (omega arith)) (product_less f g (suc k) xs (λ j l. h j (omega (arith, l))))

pub product_same : {A : Type 0} (f g : ℕ → ℕ) (k : ℕ) (xs : List A) → ((j : ℕ) → k ≤ j → f j ≡ g j) → product_from f k xs ≡ product_from g k xs
product_same f g k [] h = refl
product_same f g k (x ∷ xs) h = ap₂ (λ a b. a * b) (h k (le_refl k)) (product_same f g (suc k) xs (λ j l. h j (omega (arith, l))))

pub product_filled : {A : Type 0} (f : ℕ → ℕ) (k : ℕ) (xs : List A) → ((j : ℕ) → j < k + length xs → 1 ≤ f j) → 1 ≤ product_from f k xs
product_filled f k [] h = le_refl 1
product_filled f k (x ∷ xs) h = one-le-mul (h k (omega arith)) (product_filled f (suc k) xs (λ j l. h j (omega (arith, l))))

-- one of the numbers is 2 at least, and so is the product
pub product_several : {A : Type 0} (f : ℕ → ℕ) (k : ℕ) (xs : List A) (i : ℕ) → k ≤ i → i < k + length xs → ((j : ℕ) → j < k + length xs → 1 ≤ f j) → 2 ≤ f i → 2 ≤ product_from f k xs
product_several f k [] i l u h two = absurd (let q : i < k = omega (arith, u) in let r : ⊥ = omega (arith, l, q) in r)
product_several f k (x ∷ xs) i l u h two = by (nat_eq k i) refl (λ m. product_several f (suc k) xs i m (omega (arith, u)) (λ j m. h j (omega (arith, m))) two) where
  by : (b : Bool) → nat_eq k i ≡ b → (suc k ≤ i → 2 ≤ product_from f (suc k) xs) → 2 ≤ f k * product_from f (suc k) xs
  by true e later =
      let same : i ≡ k = grind (arith, e) in
      mul-le-mul {n₁ = 2} {m₁ = 1} {n₂ = f k} {m₂ = product_from f (suc k) xs} (subst (λ n. 2 ≤ f n) same two) (product_filled f (suc k) xs (λ j m. h j (omega (arith, m))))
  by false e later =
      mul-le-mul {n₁ = 1} {m₁ = 2} {n₂ = f k} {m₂ = product_from f (suc k) xs} (h k (omega arith)) (later (grind (arith, e, l)))

-- Where one number is parted in two, the two products make no more than the whole.
pub product_parted : {A : Type 0} (f a b : ℕ → ℕ) (k : ℕ) (xs : List A) (i : ℕ) → k ≤ i → i < k + length xs → ((j : ℕ) → j ≢ i → a j ≡ f j) → ((j : ℕ) → j ≢ i → b j ≡ f j)
    → a i + b i ≤ f i → product_from a k xs + product_from b k xs ≤ product_from f k xs
product_parted f a b k [] i l u p q sum = absurd (let r : ⊥ = omega (arith, l, u) in r)
product_parted f a b k (x ∷ xs) i l u p q sum = by (nat_eq k i) refl (λ m. product_parted f a b (suc k) xs i m (omega (arith, u)) p q sum) where
  by : (e : Bool) → nat_eq k i ≡ e → (suc k ≤ i → product_from a (suc k) xs + product_from b (suc k) xs ≤ product_from f (suc k) xs) → a k * product_from a (suc k) xs + b k * product_from b (suc k) xs ≤ f k * product_from f (suc k) xs
  by true e later =
      let same : i ≡ k = grind (arith, e) in
      let first : product_from a (suc k) xs ≡ product_from f (suc k) xs = product_same a f (suc k) xs (λ j m. p j (λ z. let r : ⊥ = omega (arith, m, z, same) in r)) in
      let second : product_from b (suc k) xs ≡ product_from f (suc k) xs = product_same b f (suc k) xs (λ j m. q j (λ z. let r : ⊥ = omega (arith, m, z, same) in r)) in
      let parts : a k + b k ≤ f k = subst (λ n. a n + b n ≤ f n) same sum in
      subst (λ n. n ≤ f k * product_from f (suc k) xs) (add-mul (a k) (b k) (product_from f (suc k) xs) ∙ ap₂ (λ m n. a k * m + b k * n) (sym first) (sym second))
      (mul-le-mul_right (product_from f (suc k) xs) parts)
  by false e later =
      let apart : k ≢ i = λ z. let r : ⊥ = grind (arith, e, z) in r in
      subst (λ n. n ≤ f k * product_from f (suc k) xs) (mul-add (f k) (product_from a (suc k) xs) (product_from b (suc k) xs)
      ∙ ap₂ (λ m n. m * product_from a (suc k) xs + n * product_from b (suc k) xs) (sym (p k apart)) (sym (q k apart)))
      (mul-le-mul_left (f k) (later (grind (arith, e, l))))
