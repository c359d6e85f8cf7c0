-- Means of proof: what holds of all that `Boxes` keeps, and single steps of it.
use Rattle.std.specs.Prelude.{◌≡◌, ℕ, ◌+◌, ◌<◌, true, false, List, [], ◌∷◌, ◌++◌, length, Option, Some, None, get_or, set}
use Rattle.eb_value.specs.declared.value.Value.{Value}
use Rattle.eb_term.specs.declared.problem.Problem.{Problem}
use Rattle.occ_domains.specs.declared.domain.Domain.{Domain}
use Rattle.occurrences.specs.declared.place.Place.{Place}
use Rattle.domain_store.specs.declared.slots.Key.{Key}
use Rattle.domain_store.specs.declared.changes.Change.{Change}
use Rattle.domain_store.specs.Places.{place_count}
use Rattle.domain_store.specs.Slots.{slot_of}
use Rattle.domain_store.specs.Boxes.{State, stores_of}
use Rattle.domain_store.specs.steps.Firsts.{Each}

-- each change has its slot among so many
abbrev pub AreWithin : ℕ → List Change → Type 0
AreWithin count changes = Each (λ k change. change.slot < count) changes

-- there is a cell for each place and each key, and each change has its cell
pub record IsSound (p : Problem) (keys : List Key) (cells : List (Option Domain)) (changes : List Change) : Type 0 where
  pub count : length cells ≡ place_count p + length keys
  pub slots : AreWithin (length cells) changes

-- no cell has a domain
abbrev pub AreEmpty : List (Option Domain) → Type 0
AreEmpty cells = Each (λ k cell. cell ≡ None) cells

-- the occurrence has this slot, and the slot a cell
pub record HasSlot (s : State) (at : Place) (bound : List Value) (slot : ℕ) : Type 0 where
  pub is : slot_of s.problem s.keys at bound ≡ Some slot
  pub within : slot < length s.cells

-- the boxes are those that they were
pub record AreSame (old now : State) : Type 0 where
  pub scope : now.scope ≡ old.scope
  pub problem : now.problem ≡ old.problem
  pub stores : stores_of now ≡ stores_of old

-- the change that takes back what a slot gets
abbrev pub back_at : List (Option Domain) → ℕ → Change
back_at cells k = record { slot = k; domain = get_or cells k None; is_box = false }

-- the change that leads to a box
abbrev pub box_at : ℕ → Domain → Change
box_at k d = record { slot = k; domain = Some d; is_box = true }

-- one more key, with an empty cell
abbrev pub with_key : State → Key → State
with_key s key = record { scope = s.scope; problem = s.problem; keys = s.keys ++ key ∷ []; cells = s.cells ++ None ∷ []; changes = s.changes; is_closed = s.is_closed }

-- one more change
abbrev pub with_change : State → Change → State
with_change s change = record { scope = s.scope; problem = s.problem; keys = s.keys; cells = s.cells; changes = s.changes ++ change ∷ []; is_closed = s.is_closed }

-- another domain in a slot, and the change that takes it back
abbrev pub with_cell : State → ℕ → Domain → State
with_cell s k d = record { scope = s.scope; problem = s.problem; keys = s.keys; cells = set s.cells k (Some d); changes = s.changes ++ back_at s.cells k ∷ []; is_closed = s.is_closed }

-- another domain in a slot, with nothing that takes it back
abbrev pub with_put : State → ℕ → Domain → State
with_put s k d = record { scope = s.scope; problem = s.problem; keys = s.keys; cells = set s.cells k (Some d); changes = s.changes; is_closed = s.is_closed }
