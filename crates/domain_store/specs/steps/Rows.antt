-- Means of proof: the keys of each place, in the order of their values.
use Rattle.std.specs.Prelude.{◌≡◌, ◌⊎◌, ℕ, ◌<◌, ◌≤◌, List, [], ◌∷◌, length, map, take, drop, get_or, Option, Some, None, slice_get}
use Rattle.std.specs.declared.cmp.Ordering.TheVariants.{Less}
use Rattle.eb_value.specs.declared.value.Value.{Value}
use Rattle.eb_value.specs.Values.{compare_all}
use Rattle.domain_store.specs.declared.slots.Key.{Key}
use Rattle.domain_store.specs.Slots.{key_at}

abbrev pub bound_of : Option Key → List Value
bound_of None = []
bound_of (Some key) = key.bound

abbrev pub bound_at : List Key → ℕ → List Value
bound_at keys i = bound_of (slice_get keys i)

-- the values of the keys with these numbers
abbrev pub bounds_of : List Key → List ℕ → List (List Value)
bounds_of keys row = map (bound_at keys) row

abbrev pub AllLess : List (List Value) → List Value → Type 0
AllLess [] bound = Unit {0}
AllLess (x ∷ xs) bound = (compare_all x bound ≡ Less) × AllLess xs bound

abbrev pub AllOver : List Value → List (List Value) → Type 0
AllOver bound [] = Unit {0}
AllOver bound (x ∷ xs) = (compare_all bound x ≡ Less) × AllOver bound xs

-- each stands below all later ones
abbrev pub Ascending : List (List Value) → Type 0
Ascending [] = Unit {0}
Ascending (x ∷ xs) = AllOver x xs × Ascending xs

-- the values aren't there, and this is their place
pub record IsPlace (bounds : List (List Value)) (bound : List Value) (at : ℕ) : Type 0 where
  pub within : at ≤ length bounds
  pub below : AllLess (take at bounds) bound
  pub above : AllOver bound (drop at bounds)

abbrev pub Member : ℕ → List ℕ → Type 0
Member i [] = ⊥
Member i (j ∷ row) = (j ≡ i) ⊎ Member i row

-- there is the key with this number, and it is of this place
pub record IsOf (keys : List Key) (number i : ℕ) : Type 0 where
  pub key : Key
  pub there : slice_get keys i ≡ Some key
  pub same : key.number ≡ number

-- the row has keys of this place in the order of their values
pub record IsRow (keys : List Key) (number : ℕ) (row : List ℕ) : Type 0 where
  pub ascending : Ascending (bounds_of keys row)
  pub numbers : (i : ℕ) → Member i row → IsOf keys number i

abbrev pub row_at : List (List ℕ) → ℕ → List ℕ
row_at rows number = get_or rows number []

-- each place has the row of its keys
pub record AreRows (keys : List Key) (rows : List (List ℕ)) : Type 0 where
  pub row : (number : ℕ) → IsRow keys number (row_at rows number)
  pub all : (i : ℕ) (key : Key) → slice_get keys i ≡ Some key → Member i (row_at rows key.number)

-- the rows are those that they were
abbrev pub SameRows : List (List ℕ) → List (List ℕ) → Type 0
SameRows old now = (number : ℕ) → row_at now number ≡ row_at old number

-- the row's numbers are below the count
abbrev pub AreWithin : ℕ → List ℕ → Type 0
AreWithin count row = (m : ℕ) → m < length row → get_or row m 0 < count

-- a key of the row, with these values
pub record IsFound (keys : List Key) (row : List ℕ) (bound : List Value) (i : ℕ) : Type 0 where
  pub member : Member i row
  pub values : bound_at keys i ≡ bound

-- there is no key of this place and these values, and this would be its place in its row
pub record IsFree (keys : List Key) (rows : List (List ℕ)) (number : ℕ) (bound : List Value) (at : ℕ) : Type 0 where
  pub absent : key_at keys number bound ≡ None
  pub place : IsPlace (bounds_of keys (row_at rows number)) bound at
