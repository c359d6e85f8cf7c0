-- What stands at a place of a list.
use Rattle.std.specs.Prelude.{ℕ, zero, suc, Bool, false, List, [], ◌∷◌, Option, Some, None, slice_get}

abbrev pub passes : {A : Type 0} → (A → Bool) → Option A → Bool
passes test None = false
passes test (Some x) = test x

-- the list has a place k, and what stands there passes the test
abbrev pub has_at : {A : Type 0} → (A → Bool) → ℕ → List A → Bool
has_at test k xs = passes test (slice_get xs k)

abbrev pub changed_at : {A : Type 0} → (A → A) → ℕ → List A → List A
changed_at f k [] = []
changed_at f zero (x ∷ xs) = f x ∷ xs
changed_at f (suc k) (x ∷ xs) = x ∷ changed_at f k xs
