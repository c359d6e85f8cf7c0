-- Stores, which give each choice a domain, and the valuations in them.
use Rattle.std.specs.Prelude.{◌≡◌, ⊤, ◌↔◌, ℕ, ◌*◌, ◌<◌, true, false, Some, slice_get, set, List, [], ◌∷◌, map, take, length, ℤ, ◌≤ℤ◌, Contains}
use Rattle.std.specs.List.{list_all}
use Rattle.eb_value.specs.declared.scope.Scope.{Scope}
use Rattle.eb_value.specs.declared.value.Value.{Value}
use Rattle.eb_value.specs.Types.{integer}
use Rattle.eb_value.specs.Values.{int}
use Rattle.eb_value.specs.Scopes.{vals}
use Rattle.eb_term.specs.declared.problem.Choice.{Choice}
use Rattle.int_dom.specs.declared.interval.Interval.{Interval}
use Rattle.int_dom.specs.Intervals.{size, is_single, at_most, above, has_parts}
use Rattle.occ_store.specs.Places.{has_at, changed_at}

-- the value is an integer of the interval
pub record IsIn (d : Interval) (v : Value) : Type 0 where
  pub number : ℤ
  pub is_number : v ≡ int number
  pub above : d.lo ≤ℤ number
  pub below : number ≤ℤ d.hi

-- A store is the list of the choices' domains.
abbrev pub Store : Type 0
Store = List Interval

-- each value is in the domain at its place
abbrev pub AreIn : Store → List Value → Type 0
AreIn [] [] = ⊤
AreIn [] (v ∷ vs) = ⊥
AreIn (d ∷ ds) [] = ⊥
AreIn (d ∷ ds) (v ∷ vs) = IsIn d v × AreIn ds vs

-- At first each choice has the domain of just the values of its type in the scope.
abbrev pub IsFirst : Scope → List Choice → Store → Type 0
IsFirst scope [] [] = ⊤
IsFirst scope [] (d ∷ ds) = ⊥
IsFirst scope (c ∷ cs) [] = ⊥
IsFirst scope (c ∷ cs) (d ∷ ds) = ((v : Value) → IsIn d v ↔ Contains (vals scope c.ty) v) × IsFirst scope cs ds

-- the integers of the scope
abbrev pub whole : Scope → Interval
whole scope = record { lo = scope.lo; hi = scope.hi }

-- the first store of choices that are integers
abbrev pub first_store : Scope → List Choice → Store
first_store scope choices = map (λ c. whole scope) choices

-- each choice is an integer
abbrev pub HaveIntegers : List Choice → Type 0
HaveIntegers [] = ⊤
HaveIntegers (c ∷ cs) = (c.ty ≡ integer) × HaveIntegers cs

-- The values of a store whose domains are single.
abbrev pub single_values : Store → List Value
single_values store = map (λ d. int d.lo) store

-- the first choice whose domain hasn't one value, with its domain
pub record IsLoose (store : Store) (loose : ℕ × Interval) : Type 0 where
  pub domain : slice_get store loose.0 ≡ Some loose.1
  pub several : is_single loose.1 ≡ false
  pub first : list_all is_single (take loose.0 store) ≡ true

-- the parts of the choice's domain by the number, of which none is empty
pub record AreParts (store : Store) (choice : ℕ) (n : ℤ) (parts : Interval × Interval) : Type 0 where
  pub present : choice < length store
  pub fits : has_at (has_parts n) choice store ≡ true
  pub low : set store choice parts.0 ≡ changed_at (at_most n) choice store
  pub high : set store choice parts.1 ≡ changed_at (above n) choice store

-- how many valuations a store has
abbrev pub volume : Store → ℕ
volume [] = 1
volume (d ∷ ds) = size d * volume ds

-- how many valuations there are
abbrev pub valuation_count : Scope → List Choice → ℕ
valuation_count scope [] = 1
valuation_count scope (c ∷ cs) = length (vals scope c.ty) * valuation_count scope cs
