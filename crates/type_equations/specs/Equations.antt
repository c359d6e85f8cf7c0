-- Equations between numbered types, and what solves them.
use Rattle.std.specs.Prelude.{◌≡◌, ⊤, ℕ, zero, suc, ◌<◌, List, [], ◌∷◌, ◌++◌}
use Rattle.eb_value.specs.declared.types.EbType.{EbType}
use Rattle.eb_value.specs.Types as type
use Rattle.type_equations.specs.declared.equation.Equation.{Equation}
use Rattle.type_equations.specs.declared.equation.Equation.TheVariants.{Same, Integer, Boolean, Carrier, Product, Power}

-- the equation holds of the types σ 0, σ 1, ..
abbrev pub Holds : (ℕ → EbType) → Equation → Type 0
Holds σ (Same i j) = σ i ≡ σ j
Holds σ (Integer i) = σ i ≡ type.integer
Holds σ (Boolean i) = σ i ≡ type.boolean
Holds σ (Carrier i place) = σ i ≡ type.carrier place
Holds σ (Product i j k) = σ i ≡ type.product (σ j) (σ k)
Holds σ (Power i j) = σ i ≡ type.power (σ j)

-- each equation holds of the types
abbrev pub Solves : (ℕ → EbType) → List Equation → Type 0
Solves σ [] = ⊤
Solves σ (e ∷ es) = Holds σ e × Solves σ es

-- the types σ 0, .., σ (n - 1)
abbrev pub types_below : ℕ → (ℕ → EbType) → List EbType
types_below zero σ = []
types_below (suc n) σ = types_below n σ ++ (σ n ∷ [])

-- the equation speaks of types below the number
abbrev pub IsBelow : ℕ → Equation → Type 0
IsBelow n (Same i j) = (i < n) × (j < n)
IsBelow n (Integer i) = i < n
IsBelow n (Boolean i) = i < n
IsBelow n (Carrier i place) = i < n
IsBelow n (Product i j k) = (i < n) × (j < n) × (k < n)
IsBelow n (Power i j) = (i < n) × (j < n)

-- each equation speaks of types below the number
abbrev pub AreBelow : ℕ → List Equation → Type 0
AreBelow n [] = ⊤
AreBelow n (e ∷ es) = IsBelow n e × AreBelow n es

-- The types are those of a solution, and of every solution.
pub record IsOnlySolution (asked : ℕ) (equations : List Equation) (types : List EbType) : Type 0 where
  pub solves : (σ : ℕ → EbType) × Solves σ equations × (types_below asked σ ≡ types)
  pub only : (σ : ℕ → EbType) → Solves σ equations → types_below asked σ ≡ types

-- nothing solves the equations
abbrev pub HaveNone : List Equation → Type 0
HaveNone equations = (σ : ℕ → EbType) → Solves σ equations → ⊥

-- two solutions differ in the types that are asked for
pub record HaveSeveral (asked : ℕ) (equations : List Equation) : Type 0 where
  pub first : ℕ → EbType
  pub second : ℕ → EbType
  pub first_solves : Solves first equations
  pub second_solves : Solves second equations
  pub differ : types_below asked first ≡ types_below asked second → ⊥
