-- Problems, their valuations and their solutions.
use Rattle.std.specs.Prelude.{◌≡◌, ⊤, ℕ, ◌+◌, ◌<◌, true, false, if◌then◌else◌, Bool, not, List, [], ◌∷◌, ◌++◌, map, length, Option, Some, None, slice_get, Contains}
use Rattle.std.specs.List.{All, list_all, list_any, flat_map}
use Rattle.eb_value.specs.declared.scope.Scope.{Scope}
use Rattle.eb_value.specs.declared.value.Value.{Value}
use Rattle.eb_value.specs.Scopes.{vals}
use Rattle.eb_term.specs.declared.problem.Choice.{Choice}
use Rattle.eb_term.specs.declared.problem.Problem.{Problem}
use Rattle.eb_term.specs.declared.term.Term.{Term}
use Rattle.eb_term.specs.Leaves.{references}
use Rattle.eb_operations.specs.declared.truth3.Truth3.{Truth3}
use Rattle.eb_operations.specs.declared.truth3.Truth3.TheVariants.{True, Undefined}
use Rattle.eb_meaning.specs.Meaning.{Slot, Env, is_value, value_of, truth_in}

-- each choice has a value of its type in the scope
abbrev pub IsValuation : Scope → List Choice → List Value → Type 0
IsValuation scope [] [] = ⊤
IsValuation scope [] (v ∷ vs) = ⊥
IsValuation scope (c ∷ cs) [] = ⊥
IsValuation scope (c ∷ cs) (v ∷ vs) = Contains (vals scope c.ty) v × IsValuation scope cs vs

-- outside all binders
abbrev pub outermost : List Slot → Env
outermost slots = record { refs = slots; bound = [] }

-- the slots with one more for each definition: its value over those before it
abbrev pub with_definitions : Scope → List Slot → List Term → List Slot
with_definitions scope slots [] = slots
with_definitions scope slots (d ∷ ds) = with_definitions scope (slots ++ value_of scope (outermost slots) d ∷ []) ds

-- what terms of a problem refer to: the choices' values and then the definitions' values
abbrev pub slots_of : Scope → List Term → List Value → List Slot
slots_of scope definitions values = with_definitions scope (map (λ v. Some v) values) definitions

-- something stands there, and it is Undefined
abbrev pub is_undefined : Option Slot → Bool
is_undefined None = false
is_undefined (Some o) = not (is_value o)

-- the list has this place, and what stands there is Undefined
abbrev pub is_undefined_at : List Slot → ℕ → Bool
is_undefined_at slots place = is_undefined (slice_get slots place)

-- the term refers to a place of the list where something Undefined stands
abbrev pub names_undefined : List Slot → Term → Bool
names_undefined slots t = list_any (is_undefined_at slots) (references t)

-- a fact's truth, which is Undefined where it refers to something that is
abbrev pub fact_at : Scope → List Slot → Term → Truth3
fact_at scope slots fact = if names_undefined slots fact then Undefined else truth_in scope (outermost slots) fact

-- the fact is True, neither False nor Undefined, where the choices have these values
abbrev pub IsTrueOf : Scope → List Term → List Value → Term → Type 0
IsTrueOf scope definitions values fact = fact_at scope (slots_of scope definitions values) fact ≡ True

-- a valuation under which each definition has a value and each fact is True
pub record IsSolution (scope : Scope) (problem : Problem) (values : List Value) : Type 0 where
  pub valuation : IsValuation scope problem.choices values
  pub defined : list_all is_value (slots_of scope problem.definitions values) ≡ true
  pub facts : All (IsTrueOf scope problem.definitions values) problem.facts

-- Each definition is referred to by some fact. Of another one no fact would tell that it is Undefined, so that a problem without a
-- solution could have no refutation.
abbrev pub AreDefinitionsNamed : Problem → Type 0
AreDefinitionsNamed p = (k : ℕ) → k < length p.definitions → Contains (flat_map references p.facts) (length p.choices + k)
