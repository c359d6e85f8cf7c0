-- Walks over the contexts of a text, from some names by what the contexts of these extend.
use Rattle.std.specs.Prelude.{ℕ, ◌≡◌, ◌<◌, ◌≤◌, true, List, [], Contains, length, get_or, map}
use Rattle.eb_syntax.specs.declared.ast.Identifier.{Identifier}
use Rattle.eb_syntax.specs.declared.units.Context.{Context}
use Rattle.eb_syntax.specs.declared.units.EbUnit.{EbUnit}
use Rattle.eb_syntax.specs.declared.units.EbUnit.TheVariants as eb
use Rattle.eb_scoping.specs.declared.contexts.Walk.{Walk}
use Rattle.eb_scoping.specs.Sets.{has_text}

-- the name is one of these, or is reached from one of them by `extends`
pub data Follows (us : List EbUnit) (first : List (List ℕ)) : List ℕ → Type 0 where
  follows_first : (name : List ℕ) → Contains first name → Follows us first name
  follows_more : (c : Context) (y : Identifier) → Follows us first c.name.name → Contains us (eb.Context c) → Contains c.extends y → Follows us first y.name

-- the names that a walk has reached, in this order
abbrev pub reached_names : Walk → List (List ℕ)
reached_names w = map (λ x. x.now) w.queue.items

-- the walk has what the contexts of this name extend
abbrev pub HasBehind : List EbUnit → Walk → List ℕ → Type 0
HasBehind us w name = (c : Context) (y : Identifier) → Contains us (eb.Context c) → c.name.name ≡ name → Contains c.extends y → has_text w.names y.name ≡ true

-- the walk has these first names, others only that follow from them, and what the contexts of its names in front of `done` extend
pub record IsWalk (us : List EbUnit) (first : List (List ℕ)) (w : Walk) : Type 0 where
  pub begins : (name : List ℕ) → Contains first name → has_text w.names name ≡ true
  pub sound : (name : List ℕ) → Contains (reached_names w) name → Follows us first name
  pub listed : (name : List ℕ) → has_text w.names name ≡ true → Contains (reached_names w) name
  pub ahead : w.done ≤ length (reached_names w)
  pub closed : (k : ℕ) → k < w.done → k < length (reached_names w) → HasBehind us w (get_or (reached_names w) k [])
