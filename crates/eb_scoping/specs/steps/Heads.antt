-- The names of contexts with their places, as a list.
use Rattle.std.specs.Prelude.{ℕ, ◌<◌, List, [], ◌∷◌, Contains, map}
use Rattle.std.specs.Borrow.{Bor}
use Rattle.eb_syntax.specs.declared.units.EbUnit.{EbUnit}
use Rattle.eb_syntax.specs.declared.units.EbUnit.TheVariants as eb
use Rattle.eb_scoping.specs.Groups.{IsContextAt}

abbrev pub seen_heads : List (Bor (List ℕ) × ℕ) → List (List ℕ × ℕ)
seen_heads heads = map (λ p. (p.0.now, p.1)) heads

-- the name and the place of a unit that is a context
abbrev pub heads_of : EbUnit → ℕ → List (List ℕ × ℕ)
heads_of (eb.Context c) i = (c.name.name, i) ∷ []
heads_of (eb.Machine m) i = []
heads_of (eb.Scope s) i = []
heads_of (eb.Queries qs) i = []

-- the name and the place of each context among the first n units
pub record AreHeads (us : List EbUnit) (n : ℕ) (heads : List (List ℕ × ℕ)) : Type 0 where
  pub sound : (name : List ℕ) (i : ℕ) → Contains heads (name, i) → IsContextAt us i name
  pub full : (name : List ℕ) (i : ℕ) → i < n → IsContextAt us i name → Contains heads (name, i)
