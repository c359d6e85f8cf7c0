-- Which values stand in brackets behind a place.
use Rattle.std.proofs.Common.{◌≡◌, refl, sym, subst, arith, ℕ, ◌<◌, ◌≤◌, List, [], ◌∷◌, length, Bool, true, false, cond, Some, None}
use Rattle.std.specs.Prelude.{nat_lt}
use Rattle.eb_value.specs.declared.scope.Scope.{Scope}
use Rattle.eb_value.specs.declared.types.EbType.{EbType}
use Rattle.eb_value.specs.declared.value.Value.{Value}
use Rattle.eb_value.specs.Typing.{AreOfTypes}
use Rattle.eb_term.specs.declared.problem.Problem.{Problem}
use Rattle.eb_term.specs.Nodes.{nodes_of}
use Rattle.problem_nodes.specs.declared.nodes.Above.{Above}
use Rattle.problem_nodes.specs.declared.nodes.Above.TheVariants as above
use Rattle.problem_nodes.specs.Places.{StandsBelow}
use Rattle.occurrences.specs.declared.place.Place.TheVariants as place
use Rattle.occurrences.specs.Occurrences as at
use Rattle.tree_lines.specs.steps.Fitting.{HasBinders}

pub choice_is : (scope : Scope) (p : Problem) (k : ℕ) (bound : List Value) → at.Occurs scope p (place.Choice k) bound → (k < length p.choices) × (bound ≡ [])
choice_is scope p k bound (at.choice h) = (h, refl)

pub definition_is : (scope : Scope) (p : Problem) (k : ℕ) (bound : List Value) → at.Occurs scope p (place.Definition k) bound → (k < length p.definitions) × (bound ≡ [])
definition_is scope p k bound (at.definition h) = (h, refl)

pub node_is : (scope : Scope) (p : Problem) (k : ℕ) (bound : List Value) → at.Occurs scope p (place.Node k) bound
    → (types : List EbType) × at.StandsInside p k types × AreOfTypes scope bound types
node_is scope p k bound (at.node types inside typed) = (types, inside, typed)

no_values : (scope : Scope) (bound : List Value) → AreOfTypes scope bound [] → bound ≡ []
no_values scope [] h = refl
no_values scope (v ∷ vs) h = absurd h

none_typed : (scope : Scope) (bound : List Value) → bound ≡ [] → AreOfTypes scope bound []
none_typed scope bound e = subst (λ b. AreOfTypes scope b []) (sym e) tt

choice_by : (p : Problem) (k : ℕ) (b : Bool) → nat_lt k (length p.choices) ≡ b → HasBinders p (place.Choice k) (cond b (Some []) None)
choice_by p k true e = λ scope bound. (
  λ o. none_typed scope bound (choice_is scope p k bound o).1,
  λ h. subst (at.Occurs scope p (place.Choice k)) (sym (no_values scope bound h)) (at.choice (grind arith)),
)
choice_by p k false e = λ scope bound o. let h = (choice_is scope p k bound o).0 in grind arith

pub choice_there : (p : Problem) (k : ℕ) → HasBinders p (place.Choice k) (cond (nat_lt k (length p.choices)) (Some []) None)
choice_there p k = choice_by p k (nat_lt k (length p.choices)) refl

definition_by : (p : Problem) (k : ℕ) (b : Bool) → nat_lt k (length p.definitions) ≡ b → HasBinders p (place.Definition k) (cond b (Some []) None)
definition_by p k true e = λ scope bound. (
  λ o. none_typed scope bound (definition_is scope p k bound o).1,
  λ h. subst (at.Occurs scope p (place.Definition k)) (sym (no_values scope bound h)) (at.definition (grind arith)),
)
definition_by p k false e = λ scope bound o. let h = (definition_is scope p k bound o).0 in grind arith

pub definition_there : (p : Problem) (k : ℕ) → HasBinders p (place.Definition k) (cond (nat_lt k (length p.definitions)) (Some []) None)
definition_there p k = definition_by p k (nat_lt k (length p.definitions)) refl

-- a node has the values of its one row of binders
pub node_there : (p : Problem) (k : ℕ) (types : List EbType) → ((a b : List EbType) → at.StandsInside p k a → at.StandsInside p k b → a ≡ b) → at.StandsInside p k types
    → HasBinders p (place.Node k) (Some types)
node_there p k types one inside = λ scope bound. (
  λ o. let i = node_is scope p k bound o in subst (AreOfTypes scope bound) (one i.0 types i.1 inside) i.2,
  λ h. at.node types inside h,
)

below_it : (p : Problem) (k : ℕ) (types : List EbType) → at.StandsInside p k types → (a : Above) × StandsBelow p k a
below_it p k types (at.definition number below) = (above.Definition number, below)
below_it p k types (at.fact number below) = (above.Fact number, below)
below_it p k types (at.beside number part t below there none outer) = (above.Part number part, below)
below_it p k types (at.within number part t ty below there some outer) = (above.Part number part, below)

-- past the nodes there is none
pub node_nowhere : (p : Problem) (k : ℕ) → ((a : Above) → StandsBelow p k a → k < length (nodes_of p)) → length (nodes_of p) ≤ k → HasBinders p (place.Node k) None
node_nowhere p k there past = λ scope bound o.
    let i = node_is scope p k bound o in
    let b = below_it p k i.0 i.1 in
    let h : k < length (nodes_of p) = there b.0 b.1 in
    absurd (omega (arith, h, past))
