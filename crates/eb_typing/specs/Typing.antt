-- Which formulas have a type, where identifiers and marks have given types.
use Rattle.std.specs.Prelude.{◌≡◌, ℕ, ⊤, List, [], ◌∷◌, map, Option, Some, slice_get}
use Rattle.eb_value.specs.declared.types.EbType.{EbType}
use Rattle.eb_value.specs.Types.{product}
use Rattle.eb_syntax.specs.declared.ast.Mark.{Mark}
use Rattle.eb_resolved.specs.Patterns.{pattern_from, ungrouped}
use Rattle.type_table.specs.Rows.{Sort, predicate, expression, Choice, sort}
use Rattle.eb_typing.specs.Numbering.{Numbered, typed, unknown, tuple, made, Parts, none, also}

-- the type of the pattern of a `%` whose first identifier has this number: `x |-> y` is of a ** b
abbrev pub tuple_type : List EbType → List Mark → ℕ → Option EbType
tuple_type types ms n = pattern_from (slice_get types) product ms (ungrouped EbType n)

-- The formula is a predicate, or an expression of this type, when identifiers and marks have the types with their numbers:
-- the one rule is that there are types for the letters of a row such that parts and whole are as it says.
abbrev mutual
  pub HasSort : List EbType → Numbered → Sort → Type 0
  HasSort types (typed k) s = (t : EbType) × (slice_get types k ≡ Some t) × (s ≡ expression t)
  HasSort types unknown s = ⊥
  HasSort types (tuple ms n) s = (t : EbType) × (tuple_type types ms n ≡ Some t) × (s ≡ expression t)
  HasSort types (made parts whole ts) s = (v : Choice) × HaveSorts types ts (map (sort v) parts) × (s ≡ sort v whole)

  pub HaveSorts : List EbType → Parts → List Sort → Type 0
  HaveSorts types none [] = ⊤
  HaveSorts types none (s ∷ ss) = ⊥
  HaveSorts types (also t ts) [] = ⊥
  HaveSorts types (also t ts) (s ∷ ss) = HasSort types t s × HaveSorts types ts ss

-- each of these formulas is a predicate
abbrev pub ArePredicates : List EbType → List Numbered → Type 0
ArePredicates types [] = ⊤
ArePredicates types (t ∷ ts) = HasSort types t predicate × ArePredicates types ts
