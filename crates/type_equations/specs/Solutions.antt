-- What the fields of a `Solution` stand for.
use Rattle.std.specs.Prelude.{◌≡◌, ℕ, zero, suc, ◌≤◌, List, length}
use Rattle.eb_value.specs.declared.types.EbType.{EbType}
use Rattle.eb_value.specs.Types as type
use Rattle.type_equations.specs.declared.store.Entry.{Entry}
use Rattle.type_equations.specs.declared.store.Entry.TheVariants.{Free, Link, Integer, Boolean, Carrier, Product, Power}
use Rattle.type_equations.specs.Depths.{AreShallow}
use Rattle.type_equations.specs.Equations.{types_below}
use Rattle.type_equations.specs.Stores.{entry_at, ArePlaced}

-- the type of an entry by the types of its parts; u stands where nothing is known
abbrev pub made : EbType → (ℕ → EbType) → Entry → EbType
made u σ Free = u
made u σ (Link other) = σ other
made u σ Integer = type.integer
made u σ Boolean = type.boolean
made u σ (Carrier place) = type.carrier place
made u σ (Product first second) = type.product (σ first) (σ second)
made u σ (Power members) = type.power (σ members)

-- the type of a number, written out n levels deep
unfoldable pub written : EbType → List Entry → ℕ → ℕ → EbType
written u entries zero number = u
written u entries (suc n) number = made u (written u entries n) (entry_at entries number)

-- The type of a number. No way through the parts of a solution passes an entry twice, so as many levels as there are
-- entries are enough.
abbrev pub type_at : EbType → List Entry → ℕ → EbType
type_at u entries = written u entries (length entries)

-- Each type is made of its parts.
pub record AreSolved (u : EbType) (entries : List Entry) : Type 0 where
  pub made_of : (number : ℕ) → type_at u entries number ≡ made u (type_at u entries) (entry_at entries number)

-- what the fields of `Solution` stand for: the types of the numbers that are asked for
abbrev pub solution_of : List Entry → ℕ → List EbType
solution_of entries asked = types_below asked (type_at type.integer entries)

-- what is so of the fields of each `Solution`
pub record IsSolution (entries : List Entry) (asked : ℕ) : Type 0 where
  pub placed : ArePlaced entries
  pub solved : AreSolved type.integer entries
  pub within : asked ≤ length entries
  pub shallow : AreShallow (solution_of entries asked)
