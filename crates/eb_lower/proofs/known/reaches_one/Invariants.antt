use Rattle.std.proofs.Common.{ℕ, List, [], ◌∷◌, take}
use Rattle.eb_scoping.specs.Walks.{IsWalk}
use Rattle.eb_lower.specs.steps.Known.{ExtendsOne}
use Rattle.eb_lower.proofs.known.reaches_one.Given as goal

abbrev pub invariant-loop-place : goal.invariant-loop-place
invariant-loop-place l = record {
  walk : (first : List (List ℕ)) → IsWalk l.units first l.initial.walk → IsWalk l.units first l.walk;
  none : (from : List ℕ) → IsWalk l.units (from ∷ []) l.initial.walk → ExtendsOne l.units from (take l.place-index l.places) → ⊥;
}
