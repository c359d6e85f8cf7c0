-- The steps of a walk over the contexts of a text.
use Rattle.std.specs.Prelude.{ℕ, ◌≡◌, ◌⊎◌, Bool, true, false, List, [], ◌++◌, Option, None, Some, Contains, get_or}
use Rattle.std.specs.Borrow.{Bor}
use Rattle.eb_syntax.specs.declared.units.Context.{Context}
use Rattle.eb_syntax.specs.declared.units.EbUnit.{EbUnit}
use Rattle.eb_syntax.specs.declared.units.EbUnit.TheVariants as eb
use Rattle.eb_scoping.specs.declared.contexts.Walk.{Walk}
use Rattle.eb_scoping.specs.FreeNames.{names_of}
use Rattle.eb_scoping.specs.Sets.{has_text}
use Rattle.eb_scoping.specs.Walks.{reached_names}

-- a walk that has reached nothing
pub record IsEmptyWalk (w : Walk) : Type 0 where
  pub names : (name : List ℕ) → has_text w.names name ≡ false
  pub queue : reached_names w ≡ []
  pub done : w.done ≡ 0

-- the second walk is the first one that reached these names too, and nothing else
pub record Adds (a b : Walk) (P : List ℕ → Type 0) : Type 0 where
  pub kept : (name : List ℕ) → has_text a.names name ≡ true → has_text b.names name ≡ true
  pub all : (name : List ℕ) → P name → has_text b.names name ≡ true
  pub only : (name : List ℕ) → Contains (reached_names b) name → Contains (reached_names a) name ⊎ P name
  pub more : (rest : List (List ℕ)) × (reached_names b ≡ reached_names a ++ rest)
  pub listed : ((name : List ℕ) → has_text a.names name ≡ true → Contains (reached_names a) name) → (name : List ℕ) → has_text b.names name ≡ true → Contains (reached_names b) name
  pub done : b.done ≡ a.done

-- the names that a unit extends
abbrev pub extends_of : EbUnit → List (List ℕ)
extends_of (eb.Context c) = names_of c.extends
extends_of (eb.Machine m) = []
extends_of (eb.Scope s) = []
extends_of (eb.Queries qs) = []

-- the unit at one of these places extends the name
abbrev pub IsBehind : List EbUnit → List ℕ → List ℕ → Type 0
IsBehind us places name = (i : ℕ) × Contains places i × (u : EbUnit) × (u ≡ get_or us i u) × Contains (extends_of u) name

-- a context of the one name extends the other
abbrev pub IsExtendedBy : List EbUnit → List ℕ → List ℕ → Type 0
IsExtendedBy us from name = (c : Context) × Contains us (eb.Context c) × (c.name.name ≡ from) × Contains (names_of c.extends) name

-- the walk has the name that is sought, if one is
abbrev pub has_sought : Walk → Option (Bor (List ℕ)) → Bool
has_sought w None = false
has_sought w (Some name) = has_text w.names name.now
