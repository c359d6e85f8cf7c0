-- Lists of equations, and lists of types.
use Rattle.std.proofs.Common.{◌≡◌, ◌∙◌, ℕ, ◌<◌, ◌≤◌, List, [], ◌∷◌, ◌++◌, sym, ap, ap₂, arith}
use Rattle.eb_value.specs.declared.types.EbType.{EbType}
use Rattle.eb_value.specs.Types.{product, power}
use Rattle.type_equations.specs.declared.equation.Equation.{Equation}
use Rattle.type_equations.specs.declared.equation.Equation.TheVariants.{Same, Integer, Boolean, Carrier, Product, Power}
use Rattle.type_equations.specs.Equations.{Holds, Solves, IsBelow, AreBelow}

pub solves_append : (σ : ℕ → EbType) (xs ys : List Equation) → Solves σ xs → Solves σ ys → Solves σ (xs ++ ys)
solves_append σ [] ys s t = t
solves_append σ (x ∷ xs) ys s t = (s.0, solves_append σ xs ys s.1 t)

pub solves_parts : (σ : ℕ → EbType) (xs ys : List Equation) → Solves σ (xs ++ ys) → Solves σ xs × Solves σ ys
solves_parts σ [] ys s = (tt, s)
solves_parts σ (x ∷ xs) ys s = let more = solves_parts σ xs ys s.1 in ((s.0, more.0), more.1)

pub below_append : (n : ℕ) (xs ys : List Equation) → AreBelow n xs → AreBelow n ys → AreBelow n (xs ++ ys)
below_append n [] ys a b = b
below_append n (x ∷ xs) ys a b = (a.0, below_append n xs ys a.1 b)

one_more : (m n : ℕ) (e : Equation) → m ≤ n → IsBelow m e → IsBelow n e
one_more m n (Same i j) h b = (omega (arith, h, b.0), omega (arith, h, b.1))
one_more m n (Integer i) h b = omega (arith, h, b)
one_more m n (Boolean i) h b = omega (arith, h, b)
one_more m n (Carrier i place) h b = omega (arith, h, b)
one_more m n (Product i j k) h b = (omega (arith, h, b.0), omega (arith, h, b.1), omega (arith, h, b.2))
one_more m n (Power i j) h b = (omega (arith, h, b.0), omega (arith, h, b.1))

pub below_more : (m n : ℕ) (xs : List Equation) → m ≤ n → AreBelow m xs → AreBelow n xs
below_more m n [] h b = tt
below_more m n (x ∷ xs) h b = (one_more m n x h b.0, below_more m n xs h b.1)

holds_too : (n : ℕ) (σ τ : ℕ → EbType) (e : Equation) → IsBelow n e → ((k : ℕ) → k < n → σ k ≡ τ k) → Holds σ e → Holds τ e
holds_too n σ τ (Same i j) b same h = sym (same i b.0) ∙ h ∙ same j b.1
holds_too n σ τ (Integer i) b same h = sym (same i b) ∙ h
holds_too n σ τ (Boolean i) b same h = sym (same i b) ∙ h
holds_too n σ τ (Carrier i place) b same h = sym (same i b) ∙ h
holds_too n σ τ (Product i j k) b same h = sym (same i b.0) ∙ h ∙ ap₂ product (same j b.1) (same k b.2)
holds_too n σ τ (Power i j) b same h = sym (same i b.0) ∙ h ∙ ap power (same j b.1)

pub solves_too : (n : ℕ) (σ τ : ℕ → EbType) (xs : List Equation) → AreBelow n xs → ((k : ℕ) → k < n → σ k ≡ τ k) → Solves σ xs → Solves τ xs
solves_too n σ τ [] b same s = tt
solves_too n σ τ (x ∷ xs) b same s = (holds_too n σ τ x b.0 same s.0, solves_too n σ τ xs b.1 same s.1)
