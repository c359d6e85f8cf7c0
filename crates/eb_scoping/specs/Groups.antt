-- The places of the contexts of a text by their names.
use Rattle.std.specs.Prelude.{ℕ, ◌≡◌, ◌<◌, List, [], Contains, length, get_or}
use Rattle.std.specs.Ordering.{nat_cmp}
use Rattle.std.specs.Cmp.Lexicographic.{slice_cmp}
use Rattle.std.specs.Option.{option_map_or}
use Rattle.std.specs.BTreeMap.{BTreeMap, get_by}
use Rattle.std.specs.Global.{Vec}
use Rattle.std.specs.Borrow.{Bor}
use Rattle.eb_syntax.specs.declared.units.Context.{Context}
use Rattle.eb_syntax.specs.declared.units.EbUnit.{EbUnit}
use Rattle.eb_syntax.specs.declared.units.EbUnit.TheVariants as eb

-- the places behind a name
abbrev pub group : BTreeMap (Bor (List ℕ)) (Vec ℕ) → List ℕ → List ℕ
group m name = option_map_or (λ g. g.items) (get_by (λ k. slice_cmp nat_cmp name k.now) m) []

-- the unit at this place is a context of this name
pub record IsContextAt (us : List EbUnit) (i : ℕ) (name : List ℕ) : Type 0 where
  pub context : Context
  pub inside : i < length us
  pub is : eb.Context context ≡ get_or us i (eb.Context context)
  pub named : context.name.name ≡ name

-- the places are those of the contexts, by name
pub record IsIndex (us : List EbUnit) (m : BTreeMap (Bor (List ℕ)) (Vec ℕ)) : Type 0 where
  pub sound : (name : List ℕ) (i : ℕ) → Contains (group m name) i → IsContextAt us i name
  pub full : (name : List ℕ) (i : ℕ) → IsContextAt us i name → Contains (group m name) i
