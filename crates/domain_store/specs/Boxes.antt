-- Lists of boxes, first ones first. Each box is a store.
use Rattle.std.specs.Prelude.{◌≡◌, ℕ, Bool, true, false, cond, List, [], ◌∷◌, Option, Some, option_and_then, slice_get, set, map, reverse}
use Rattle.eb_value.specs.declared.scope.Scope.{Scope}
use Rattle.eb_value.specs.declared.value.Value.{Value}
use Rattle.eb_term.specs.declared.problem.Problem.{Problem}
use Rattle.occ_domains.specs.declared.domain.Domain.{Domain}
use Rattle.occ_domains.specs.Domains.{is_normal}
use Rattle.occurrences.specs.declared.place.Place.{Place}
use Rattle.occurrences.specs.Stores.{Domains, first_domains, with_domain}
use Rattle.domain_store.specs.declared.slots.Key.{Key}
use Rattle.domain_store.specs.declared.changes.Change.{Change}
use Rattle.domain_store.specs.Slots.{slot_of}

-- What `Boxes` keeps: a domain for each slot that has one of its own, and the changes that lead from the first box's store to the
-- later ones, the next one last.
pub record State : Type 0 where
  pub scope : Scope
  pub problem : Problem
  pub keys : List Key
  pub cells : List (Option Domain)
  pub changes : List Change
  pub is_closed : Bool

abbrev pub scope_of : State → Scope
scope_of s = s.scope

abbrev pub problem_of : State → Problem
problem_of s = s.problem

-- ---- stores

abbrev pub own_or : Domain → Option (Option Domain) → Domain
own_or first (Some (Some d)) = d
own_or first _ = first

abbrev pub cell_at : List (Option Domain) → Option ℕ → Option (Option Domain)
cell_at cells slot = option_and_then (λ k. slice_get cells k) slot

-- the domain of its own of an occurrence, and else the first one
abbrev pub store_by : Scope → Problem → List Key → List (Option Domain) → Domains
store_by scope p keys cells place bound = own_or (first_domains scope p place bound) (cell_at cells (slot_of p keys place bound))

-- the cells with the change
abbrev pub changed : List (Option Domain) → Change → List (Option Domain)
changed cells change = set cells change.slot change.domain

-- the cells of the boxes that changes lead to, one after another
abbrev pub later : List (Option Domain) → List Change → List (List (Option Domain))
later cells [] = []
later cells (change ∷ changes) = cond change.is_box (changed cells change ∷ later (changed cells change) changes) (later (changed cells change) changes)

abbrev pub cells_from : Bool → List (Option Domain) → List Change → List (List (Option Domain))
cells_from true cells changes = []
cells_from false cells changes = cells ∷ later cells changes

-- the stores of the boxes that aren't closed, first ones first
abbrev pub stores_of : State → List Domains
stores_of s = map (store_by s.scope s.problem s.keys) (cells_from s.is_closed s.cells (reverse s.changes))

-- the store of the first box, if there is one
abbrev pub domains_of : State → Domains
domains_of s = store_by s.scope s.problem s.keys s.cells

-- ---- changes

-- the boxes behind the first
abbrev pub after_first : List Domains → List Domains
after_first [] = []
after_first (at ∷ rest) = rest

-- the first box with the domain of one occurrence replaced
abbrev pub narrow_first : Place → List Value → Domain → List Domains → List Domains
narrow_first place bound d [] = []
narrow_first place bound d (at ∷ rest) = with_domain at place bound d ∷ rest

-- two boxes in the place of the first, in which the occurrence has these domains
abbrev pub split_first : Place → List Value → Domain → Domain → List Domains → List Domains
split_first place bound first second [] = []
split_first place bound first second (at ∷ rest) = with_domain at place bound first ∷ with_domain at place bound second ∷ rest

-- each domain is in normal form
pub record AreNormal (at : Domains) : Type 0 where
  pub each : (place : Place) (bound : List Value) → is_normal (at place bound) ≡ true
