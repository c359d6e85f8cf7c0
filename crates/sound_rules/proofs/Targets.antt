-- What a rule at an occurrence narrows is an occurrence of the problem.
use Rattle.std.proofs.Common.{◌≡◌, refl, sym, subst, ℕ, ◌+◌, ◌-◌, ◌<◌, Bool, true, false, nat_lt, if◌then◌else◌, List, [], length, Option, Some, None, option_and_then, slice_get, Contains, arith}
use Rattle.eb_value.specs.declared.scope.Scope.{Scope}
use Rattle.eb_value.specs.declared.value.Value.{Value}
use Rattle.eb_term.specs.declared.problem.Problem.{Problem}
use Rattle.eb_term.specs.declared.term.Term.{Term}
use Rattle.eb_term.specs.declared.term.Head.TheOpen as head
use Rattle.eb_term.specs.Terms.{Layer, layer}
use Rattle.eb_term.specs.Leaves.{references}
use Rattle.eb_term.specs.Nodes.{nodes_of}
use Rattle.problem_nodes.specs.declared.nodes.Above.{Above}
use Rattle.problem_nodes.specs.declared.nodes.Above.TheVariants as above
use Rattle.problem_nodes.specs.Aboves.{above_of}
use Rattle.occurrences.specs.declared.place.Place.{Place}
use Rattle.occurrences.specs.declared.place.Place.TheVariants as place
use Rattle.occurrences.specs.declared.place.Rule.{Rule}
use Rattle.occurrences.specs.declared.place.Rule.TheVariants as rule
use Rattle.occurrences.specs.Occurrences.{Occurs}
use Rattle.occurrences.specs.Occurrences as occurs
use Rattle.occurrences.specs.Targets.{referred, reference_in, below, target, target_bound}
use Rattle.occurrences.specs.Typed.{IsTyped, AreOfNamedTypes}
use Rattle.sound_rules.proofs.Hypotheses.{TermLaws, NodeLaws}
use Rattle.sound_rules.proofs.References.{refers}
use Rattle.sound_rules.proofs.TypedNodes.{typed_node}

itself : (q to : Place) (b : Bool) → (if b then Some q else None) ≡ Some to → to ≡ q
itself q to true e = let r : q ≡ to = cc in sym r
itself q to false e = let r : None ≡ Some to = e in cc

node_itself : (k : ℕ) (to : Place) (o : Option Term) → option_and_then (λ t. Some (place.Node k)) o ≡ Some to → to ≡ place.Node k
node_itself k to None e = let r : None ≡ Some to = e in cc
node_itself k to (Some t) e = let r : place.Node k ≡ to = cc in sym r

below_itself : (k : ℕ) (to : Place) (o : Option Above) → below k o ≡ Some to → to ≡ place.Node k
below_itself k to None e = let r : None ≡ Some to = e in cc
below_itself k to (Some (above.Fact n)) e = let r : None ≡ Some to = e in cc
below_itself k to (Some (above.Definition n)) e = let r : place.Node k ≡ to = cc in sym r
below_itself k to (Some (above.Part n m)) e = let r : place.Node k ≡ to = cc in sym r

module _ (scope : Scope) (laws : TermLaws scope) (p : Problem) (nodes : NodeLaws p) (typed : IsTyped scope p) where
  -- where nothing is known of what references stand for
  unknown : AreOfNamedTypes scope p []
  unknown number ty e = refl

  referred_occurs : (number : ℕ) → number < length p.choices + length p.definitions → Occurs scope p (referred (length p.choices) number) []
  referred_occurs number l = by (nat_lt number (length p.choices)) refl where
    by : (b : Bool) → nat_lt number (length p.choices) ≡ b → Occurs scope p (if b then place.Choice number else place.Definition (number - length p.choices)) []
    by true e = occurs.choice (grind (arith, e))
    by false e = occurs.definition (grind (arith, e, l))

  by_layer : (t : Term) (y : Layer) (to : Place) → layer t ≡ y → reference_in (length p.choices) y ≡ Some to
      → ((number : ℕ) → Contains (references t) number → number < length p.choices + length p.definitions) → Occurs scope p to []
  by_layer t (head.Reference number ty) to q e within =
      let r : referred (length p.choices) number ≡ to = cc in
      subst (λ x. Occurs scope p x []) r (referred_occurs number (within number (refers t number ty q)))
  by_layer t _ to q e within = let r : None ≡ Some to = e in cc

  refer_occurs : (k : ℕ) (bound : List Value) (to : Place) → Occurs scope p (place.Node k) bound → (o : Option Term) → slice_get (nodes_of p) k ≡ o
      → option_and_then (λ t. reference_in (length p.choices) (layer t)) o ≡ Some to → Occurs scope p to []
  refer_occurs k bound to (occurs.node types inside are) None f e = let r : None ≡ Some to = e in cc
  refer_occurs k bound to (occurs.node types inside are) (Some t) f e =
      by_layer t (layer t) to refl e (λ number c. (typed_node scope laws p nodes typed [] unknown k types inside t f).refers number c)

  pub target_occurs : (r : Rule) (from : Place) (bound : List Value) (to : Place) → Occurs scope p from bound → target p r from ≡ Some to → Occurs scope p to (target_bound r bound)
  target_occurs rule.Up (place.Choice k) bound to o e = let q : None ≡ Some to = e in cc
  target_occurs rule.Up (place.Definition k) bound to o e = subst (λ x. Occurs scope p x bound) (sym (itself (place.Definition k) to (nat_lt k (length p.definitions)) e)) o
  target_occurs rule.Up (place.Node k) bound to o e = subst (λ x. Occurs scope p x bound) (sym (node_itself k to (slice_get (nodes_of p) k) e)) o
  target_occurs rule.Down (place.Choice k) bound to o e = let q : None ≡ Some to = e in cc
  target_occurs rule.Down (place.Definition k) bound to o e = let q : None ≡ Some to = e in cc
  target_occurs rule.Down (place.Node k) bound to o e = subst (λ x. Occurs scope p x bound) (sym (below_itself k to (above_of p k) e)) o
  target_occurs rule.Refer (place.Choice k) bound to o e = let q : None ≡ Some to = e in cc
  target_occurs rule.Refer (place.Definition k) bound to o e = let q : None ≡ Some to = e in cc
  target_occurs rule.Refer (place.Node k) bound to o e = refer_occurs k bound to o (slice_get (nodes_of p) k) refl e
