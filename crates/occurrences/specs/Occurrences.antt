-- Where formulas of a problem occur: its choices, its definitions, and its nodes with a value for each binder around them.
use Rattle.std.specs.Prelude.{◌≡◌, ℕ, ◌<◌, List, [], ◌∷◌, ◌++◌, length, Some, None, slice_get}
use Rattle.eb_value.specs.declared.scope.Scope.{Scope}
use Rattle.eb_value.specs.declared.types.EbType.{EbType}
use Rattle.eb_value.specs.declared.value.Value.{Value}
use Rattle.eb_term.specs.declared.problem.Problem.{Problem}
use Rattle.eb_term.specs.declared.term.Term.{Term}
use Rattle.eb_term.specs.Nodes.{nodes_of}
use Rattle.eb_meaning.specs.Fitting.{AreOfTypes}
use Rattle.problem_nodes.specs.declared.nodes.Above.TheVariants as above
use Rattle.problem_nodes.specs.Places.{StandsBelow}
use Rattle.occurrences.specs.declared.place.Place.{Place}
use Rattle.occurrences.specs.declared.place.Place.TheVariants as place
use Rattle.occurrences.specs.Binding.{binds}

-- The node with this number stands inside binders of values of these types, the outermost first.
pub data StandsInside (p : Problem) : ℕ → List EbType → Type 0 where
  definition : {k : ℕ} (number : ℕ) → StandsBelow p k (above.Definition number) → StandsInside p k []
  fact : {k : ℕ} (number : ℕ) → StandsBelow p k (above.Fact number) → StandsInside p k []
  beside : {k : ℕ} {types : List EbType} (number part : ℕ) (t : Term) → StandsBelow p k (above.Part number part) → slice_get (nodes_of p) number ≡ Some t
      → binds t part ≡ None → StandsInside p number types → StandsInside p k types
  within : {k : ℕ} {types : List EbType} (number part : ℕ) (t : Term) (ty : EbType) → StandsBelow p k (above.Part number part)
      → slice_get (nodes_of p) number ≡ Some t → binds t part ≡ Some ty → StandsInside p number types → StandsInside p k (types ++ ty ∷ [])

-- The problem has this place, and these are values of the binders around it, the outermost first.
pub data Occurs (scope : Scope) (p : Problem) : Place → List Value → Type 0 where
  choice : {k : ℕ} → k < length p.choices → Occurs scope p (place.Choice k) []
  definition : {k : ℕ} → k < length p.definitions → Occurs scope p (place.Definition k) []
  node : {k : ℕ} {bound : List Value} (types : List EbType) → StandsInside p k types → AreOfTypes scope bound types → Occurs scope p (place.Node k) bound
