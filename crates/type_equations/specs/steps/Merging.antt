-- How two entries for one type are made one.
use Rattle.std.specs.Prelude.{◌≡◌, ⊤, ℕ, ◌+◌, ◌*◌, ◌<◌, ◌≤◌, nat_eq, cond, Option, Some, None, List, [], ◌∷◌, ◌++◌, length}
use Rattle.eb_value.specs.declared.types.EbType.{EbType}
use Rattle.type_equations.specs.declared.store.Entry.{Entry}
use Rattle.type_equations.specs.declared.store.Entry.TheVariants.{Free, Integer, Boolean, Carrier, Product, Power}
use Rattle.type_equations.specs.declared.equation.Equation.{Equation}
use Rattle.type_equations.specs.Equations.{Solves}
use Rattle.type_equations.specs.Stores.{Agrees, ArePlaced, roots}

abbrev pub Pairs : Type 0
Pairs = List (ℕ × ℕ)

-- the types of each pair are the same
abbrev pub AreSame : (ℕ → EbType) → Pairs → Type 0
AreSame σ [] = ⊤
AreSame σ (p ∷ ps) = (σ p.0 ≡ σ p.1) × AreSame σ ps

-- both numbers of each pair are below a number
abbrev pub PairsBelow : ℕ → Pairs → Type 0
PairsBelow n [] = ⊤
PairsBelow n (p ∷ ps) = (p.0 < n) × (p.1 < n) × PairsBelow n ps

-- the one entry for two that aren't links, and the pairs of parts that must then be the same
abbrev pub merge : Entry → Entry → Option (Entry × Pairs)
merge Free second = Some (second, [])
merge first Free = Some (first, [])
merge Integer Integer = Some (Integer, [])
merge Boolean Boolean = Some (Boolean, [])
merge (Carrier a) (Carrier b) = cond (nat_eq a b) (Some (Carrier a, [])) None
merge (Product a b) (Product c d) = Some (Product a b, (a, c) ∷ (b, d) ∷ [])
merge (Power a) (Power b) = Some (Power a, (a, b) ∷ [])
merge first second = None

-- the entry is that of the merge, whose pairs come behind those before
abbrev pub Gives : Option (Entry × Pairs) → Entry → Pairs → Pairs → Type 0
Gives None entry before after = ⊥
Gives (Some m) entry before after = (entry ≡ m.0) × (after ≡ before ++ m.1)

-- The entries and the pairs say before, with the fact, just what they say after.
pub record Steps (Fact : (ℕ → EbType) → Type 0) (entries : List Entry) (pairs : Pairs) (after : List Entry) (pairs_after : Pairs) : Type 0 where
  pub count : length after ≡ length entries
  pub placed : ArePlaced after
  pub below : PairsBelow (length entries) pairs_after
  pub to : (σ : ℕ → EbType) → Agrees σ entries → AreSame σ pairs → Fact σ → Agrees σ after × AreSame σ pairs_after
  pub back : (σ : ℕ → EbType) → Agrees σ after → AreSame σ pairs_after → Agrees σ entries × AreSame σ pairs × Fact σ

-- The same for two types that become one. Entries become links, so that this ends.
pub record Joins (Fact : (ℕ → EbType) → Type 0) (entries : List Entry) (pairs : Pairs) (after : List Entry) (pairs_after : Pairs) : Type 0 where
  pub steps : Steps Fact entries pairs after pairs_after
  pub fewer : 3 * roots after + length pairs_after ≤ 3 * roots entries + length pairs

-- with the fact no types agree with the entries and the pairs
abbrev pub Refutes : ((ℕ → EbType) → Type 0) → List Entry → Pairs → Type 0
Refutes Fact entries pairs = (σ : ℕ → EbType) → Agrees σ entries → AreSame σ pairs → Fact σ → ⊥

-- The entries say before, with the pairs, just what they say after, when no pairs are left.
pub record Unifies (entries : List Entry) (pairs : Pairs) (after : List Entry) (pairs_after : Pairs) : Type 0 where
  pub count : length after ≡ length entries
  pub placed : ArePlaced after
  pub none : pairs_after ≡ []
  pub to : (σ : ℕ → EbType) → Agrees σ entries → AreSame σ pairs → Agrees σ after
  pub back : (σ : ℕ → EbType) → Agrees σ after → Agrees σ entries × AreSame σ pairs

-- no types agree with the entries and the pairs
abbrev pub Differ : List Entry → Pairs → Type 0
Differ entries pairs = (σ : ℕ → EbType) → Agrees σ entries → AreSame σ pairs → ⊥

-- The entries say just what the equations say.
pub record Says (total : ℕ) (equations : List Equation) (entries : List Entry) : Type 0 where
  pub count : length entries ≡ total
  pub placed : ArePlaced entries
  pub to : (σ : ℕ → EbType) → Solves σ equations → Agrees σ entries
  pub back : (σ : ℕ → EbType) → Agrees σ entries → Solves σ equations
