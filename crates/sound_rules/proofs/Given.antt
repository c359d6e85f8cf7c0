-- What a rule gives its target has what comes of the target.
use Rattle.std.proofs.Common.{◌≡◌, ◌∙◌, refl, sym, ap, subst, ℕ, zero, suc, ◌+◌, ◌<◌, true, List, [], ◌∷◌, length, slice_get, Option, Some, None, MatchOption, Bool, false, cond}
use Rattle.std.specs.Prelude.{option_and_then, nat_lt}
use Rattle.std.proofs.lemmas.Option.{same_Some}
use Rattle.eb_value.specs.declared.scope.Scope.{Scope}
use Rattle.eb_value.specs.declared.types.EbType.{EbType}
use Rattle.eb_value.specs.declared.value.Value.{Value}
use Rattle.eb_term.specs.declared.problem.Problem.{Problem}
use Rattle.eb_term.specs.declared.term.Term.{Term}
use Rattle.eb_term.specs.declared.term.Head.TheOpen as head
use Rattle.eb_term.specs.Terms.{Layer, layer}
use Rattle.eb_term.specs.Nodes.{nodes_of}
use Rattle.eb_meaning.specs.Meaning.{Slot, slot_at}
use Rattle.eb_meaning.specs.Fitting.{AreOfTypes}
use Rattle.eb_meaning.specs.Problems.{IsValuation, slots_of}
use Rattle.problem_nodes.specs.declared.nodes.Above.{Above}
use Rattle.problem_nodes.specs.declared.nodes.Above.TheVariants as above
use Rattle.problem_nodes.specs.Places.{size, starts, definition_roots, StandsBelow}
use Rattle.problem_nodes.specs.Aboves.{above_of}
use Rattle.occ_domains.specs.Domains.{Outcome, slot, has}
use Rattle.occurrences.specs.declared.place.Place.{Place}
use Rattle.occurrences.specs.declared.place.Place.TheVariants as place
use Rattle.occurrences.specs.declared.place.Rule.{Rule}
use Rattle.occurrences.specs.declared.place.Rule.TheVariants as rule
use Rattle.occurrences.specs.Binding.{binds}
use Rattle.occurrences.specs.Occurrences as occurrences
use Rattle.occurrences.specs.Occurrences.{StandsInside, Occurs}
use Rattle.occurrences.specs.Outcomes.{env_of, outcome_of, ComesAt, HaveWhatComes}
use Rattle.occurrences.specs.Stores.{Domains}
use Rattle.occurrences.specs.Targets.{referred, reference_in, below, definition_there, target, target_bound}
use Rattle.occurrences.specs.Typed.{IsTyped}
use Rattle.node_rules.specs.Nodes.{up_at, down_at, down_in, down_layer}
use Rattle.node_rules.specs.Narrowing.{given, given_root, given_up, given_down}
use Rattle.sound_rules.proofs.Hypotheses.{TermLaws, NodeLaws, RuleLaws}
use Rattle.sound_rules.proofs.Binders.{down_body}
use Rattle.sound_rules.proofs.References.{its_outcome}
use Rattle.sound_rules.proofs.Slots.{are_of_types}
use Rattle.sound_rules.proofs.TypedNodes.{IsNode, typed_node, started, part_there, no_values, definition_outside, whole_inside}
use Rattle.sound_rules.proofs.Coming.{there, node_is, definition_outcome, definition_is, referred_is, node_has, definition_has, parts_have, reference_has}

-- terms that follow each other have numbers
numbered : (b : ℕ) (ts : List Term) (n : ℕ) (t : Term) → slice_get ts n ≡ Some t → (k : ℕ) × (slice_get (starts b ts) n ≡ Some k)
numbered b [] n t e = absurd (cc)
numbered b (u ∷ ts) zero t e = (b, refl)
numbered b (u ∷ ts) (suc n) t e = numbered (b + size u) ts n t e

module _ (scope : Scope) (laws : TermLaws scope) (rules : RuleLaws scope) (p : Problem) (nodes : NodeLaws p) (typed : IsTyped scope p) (values : List Value) (valuation : IsValuation scope p.choices values) (at : Domains)
    (have : HaveWhatComes scope p values at) where
  abbrev slots : List Slot
  slots = slots_of scope p.definitions values

  -- what comes of the target
  abbrev Comes : Place → List Value → Outcome → Type 0
  Comes to bound o = ComesAt scope p values to bound o

  node_of : (k : ℕ) (types : List EbType) (t : Term) → StandsInside p k types → slice_get (nodes_of p) k ≡ Some t → IsNode scope p slots types t
  node_of k types t i e = typed_node scope laws p nodes typed slots (are_of_types scope laws p typed values valuation) k types i t e

  -- ---- Up

  up_definition : (k : ℕ) (bound : List Value) (o : Outcome) → k < length p.definitions → Comes (place.Definition k) bound o → has (given_root at (slice_get (definition_roots p) k)) o ≡ true
  up_definition k bound o l h =
      let d = there p.definitions k l in
      let root = numbered 0 p.definitions k d.0 d.1 in
      let e : o ≡ outcome_of scope (env_of slots []) d.0 = definition_is scope laws p nodes typed values valuation k bound d.0 o d.1 h ∙ sym (definition_outcome scope laws p nodes typed values valuation k d.0 d.1) in
      subst (λ x. has (given_root at x) o ≡ true) (sym root.1)
      (subst (λ x. has (at (place.Node root.0) []) x ≡ true) (sym e)
      (node_has scope laws p nodes typed values valuation at have root.0 [] [] d.0 (occurrences.definition k root.1) tt (nodes.definitions k root.0 d.0 d.1 root.1)))

  up_node : (k : ℕ) (types : List EbType) (bound : List Value) (t : Term) (o : Outcome) → StandsInside p k types → AreOfTypes scope bound types → slice_get (nodes_of p) k ≡ Some t
      → Comes (place.Node k) bound o → has (up_at scope p at k bound t) o ≡ true
  up_node k types bound t o i a e h =
      let node = node_of k types t i e in
      subst (λ x. has (up_at scope p at k bound t) x ≡ true) (sym (node_is scope laws p nodes typed values valuation k bound t o e h))
      (rules.up (length p.choices) at slots bound types k t node.sort node.typed node.fit a
      (parts_have scope laws p nodes typed values valuation at have k types bound t i a e)
      (reference_has scope laws p nodes typed values valuation at have types t node))

  -- ---- Down

  down_definition : (k number : ℕ) (types : List EbType) (bound : List Value) (o : Outcome) → StandsInside p k types → AreOfTypes scope bound types → StandsBelow p k (above.Definition number)
      → Comes (place.Node k) bound o → has (at (place.Definition number) []) o ≡ true
  down_definition k number types bound o i a s h =
      let d = started 0 p.definitions number k s in
      let none : bound ≡ [] = no_values scope bound types a (definition_outside p nodes k number types s i) in
      let e : o ≡ outcome_of scope (env_of slots bound) d.0 = node_is scope laws p nodes typed values valuation k bound d.0 o (nodes.definitions number k d.0 d.1 s) h in
      let f : outcome_of scope (env_of slots bound) d.0 ≡ outcome_of scope (env_of slots []) d.0 = ap (λ b. outcome_of scope (env_of slots b) d.0) none in
      subst (λ x. has (at (place.Definition number) []) x ≡ true) (sym (e ∙ f ∙ definition_outcome scope laws p nodes typed values valuation number d.0 d.1))
      (definition_has scope laws p nodes typed values valuation at have number d.0 d.1)

  down_part : (k number n : ℕ) (types : List EbType) (bound : List Value) (t u : Term) → StandsInside p k types → AreOfTypes scope bound types → StandsBelow p k (above.Part number n)
      → slice_get (nodes_of p) number ≡ Some u → slice_get (nodes_of p) k ≡ Some t → has (down_layer at number bound n (layer u) (at (place.Node k) bound)) (outcome_of scope (env_of slots bound) t) ≡ true
  down_part k number n types bound t u i a s e f = by (binds u n) refl where
    here : has (at (place.Node k) bound) (outcome_of scope (env_of slots bound) t) ≡ true
    here = node_has scope laws p nodes typed values valuation at have k types bound t i a f

    by : (b : Option EbType) → binds u n ≡ b → has (down_layer at number bound n (layer u) (at (place.Node k) bound)) (outcome_of scope (env_of slots bound) t) ≡ true
    by (Some ty) g = subst (λ d. has d (outcome_of scope (env_of slots bound) t) ≡ true) (sym (down_body at number bound n (layer u) ty (at (place.Node k) bound) g)) here
    by None g =
        let j = whole_inside p nodes k number n u types s e g i in
        let node = node_of number types u j e in
        rules.down at slots bound types number u node.sort node.typed node.fit a (parts_have scope laws p nodes typed values valuation at have number types bound u j a e)
        n t (at (place.Node k) bound) (part_there p nodes k number n u t s e f) here
        (node_has scope laws p nodes typed values valuation at have number types bound u j a e)

  -- ---- any rule

  up_definition_given : (k : ℕ) (bound : List Value) (to : Place) (o : Outcome) → definition_there (length p.definitions) k ≡ Some to → k < length p.definitions → Comes to bound o
      → has (given_root at (slice_get (definition_roots p) k)) o ≡ true
  up_definition_given k bound to o e l h = by (nat_lt k (length p.definitions)) e where
    by : (b : Bool) → cond b (Some (place.Definition k)) None ≡ Some to → has (given_root at (slice_get (definition_roots p) k)) o ≡ true
    by true g = up_definition k bound o l (subst (λ x. Comes x bound o) (sym (same_Some (place.Definition k) to g)) h)
    by false g = absurd (cc)

  up_node_given : (k : ℕ) (types : List EbType) (bound : List Value) (to : Place) (o : Outcome) → StandsInside p k types → AreOfTypes scope bound types
      → target p rule.Up (place.Node k) ≡ Some to → Comes to bound o → has (given_up scope p at k bound (slice_get (nodes_of p) k)) o ≡ true
  up_node_given k types bound to o i a e h = by (slice_get (nodes_of p) k) refl e where
    by : (t : Option Term) → slice_get (nodes_of p) k ≡ t → option_and_then (λ u. Some (place.Node k)) t ≡ Some to → has (given_up scope p at k bound t) o ≡ true
    by None f g = absurd (cc)
    by (Some t) f g = up_node k types bound t o i a f (subst (λ x. Comes x bound o) (sym (same_Some (place.Node k) to g)) h)

  down_node : (k : ℕ) (types : List EbType) (bound : List Value) (o : Outcome) (b : Above) → StandsInside p k types → AreOfTypes scope bound types → StandsBelow p k b → below k (Some b) ≡ Some (place.Node k)
      → Comes (place.Node k) bound o → has (down_at p at k bound b) o ≡ true
  down_node k types bound o (above.Definition number) i a s e h = down_definition k number types bound o i a s h
  down_node k types bound o (above.Fact number) i a s e h = absurd (cc)
  down_node k types bound o (above.Part number n) i a s e h = by (slice_get (nodes_of p) number) refl (slice_get (nodes_of p) k) refl where
    by : (u : Option Term) → slice_get (nodes_of p) number ≡ u → (t : Option Term) → slice_get (nodes_of p) k ≡ t → has (down_in u at number bound n (at (place.Node k) bound)) o ≡ true
    by None f t g = have (place.Node k) bound o (occurrences.node types i a) h
    by (Some u) f None g = absurd (subst (λ x. MatchOption x ⊥ (λ t. o ≡ outcome_of scope (env_of slots bound) t)) g h)
    by (Some u) f (Some t) g =
        subst (λ x. has (down_layer at number bound n (layer u) (at (place.Node k) bound)) x ≡ true) (sym (node_is scope laws p nodes typed values valuation k bound t o g h))
        (down_part k number n types bound t u i a s f g)

  down_given : (k : ℕ) (types : List EbType) (bound : List Value) (to : Place) (o : Outcome) → StandsInside p k types → AreOfTypes scope bound types
      → below k (above_of p k) ≡ Some to → Comes to bound o → has (given_down p at k bound (above_of p k)) o ≡ true
  down_given k types bound to o i a e h = by (above_of p k) refl e where
    itself : (b : Above) → below k (Some b) ≡ Some to → to ≡ place.Node k
    itself (above.Definition number) g = cc
    itself (above.Fact number) g = absurd (cc)
    itself (above.Part number n) g = cc

    by : (b : Option Above) → above_of p k ≡ b → below k b ≡ Some to → has (given_down p at k bound b) o ≡ true
    by None f g = absurd (cc)
    by (Some b) f g =
        let same = itself b g in
        down_node k types bound o b i a (nodes.below k b f) (g ∙ ap Some same) (subst (λ x. Comes x bound o) same h)

  refer_given : (k : ℕ) (types : List EbType) (bound : List Value) (to : Place) (o : Outcome) → StandsInside p k types → AreOfTypes scope bound types
      → target p rule.Refer (place.Node k) ≡ Some to → Comes to [] o → has (at (place.Node k) bound) o ≡ true
  refer_given k types bound to o i a e h = by (slice_get (nodes_of p) k) refl e where
    to_reference : (t : Term) → slice_get (nodes_of p) k ≡ Some t → (y : Layer) → layer t ≡ y → reference_in (length p.choices) y ≡ Some to → has (at (place.Node k) bound) o ≡ true
    to_reference t f (head.Reference number ty) q g =
        let there : o ≡ slot (slot_at slots number) =
        referred_is scope laws p nodes typed values valuation number [] o (subst (λ x. Comes x [] o) (sym (same_Some (referred (length p.choices) number) to g)) h) in
        subst (λ x. has (at (place.Node k) bound) x ≡ true) (its_outcome t number ty q scope (env_of slots bound) ∙ sym there)
        (node_has scope laws p nodes typed values valuation at have k types bound t i a f)
    to_reference t f _ q g = absurd (cc)

    by : (t : Option Term) → slice_get (nodes_of p) k ≡ t → option_and_then (λ u. reference_in (length p.choices) (layer u)) t ≡ Some to → has (at (place.Node k) bound) o ≡ true
    by None f g = absurd (cc)
    by (Some t) f g = to_reference t f (layer t) refl g

  -- what the rule gives its target has what comes of it
  pub given_has : (r : Rule) (from : Place) (bound : List Value) (to : Place) (o : Outcome) → Occurs scope p from bound → target p r from ≡ Some to → Comes to (target_bound r bound) o
      → has (given scope p at r from bound) o ≡ true
  given_has rule.Up (place.Choice k) bound to o n e h = absurd (cc)
  given_has rule.Up (place.Definition k) _ to o (occurrences.definition l) e h = up_definition_given k [] to o e l h
  given_has rule.Up (place.Node k) bound to o (occurrences.node types i a) e h = up_node_given k types bound to o i a e h
  given_has rule.Down (place.Choice k) bound to o n e h = absurd (cc)
  given_has rule.Down (place.Definition k) bound to o n e h = absurd (cc)
  given_has rule.Down (place.Node k) bound to o (occurrences.node types i a) e h = down_given k types bound to o i a e h
  given_has rule.Refer (place.Choice k) bound to o n e h = absurd (cc)
  given_has rule.Refer (place.Definition k) bound to o n e h = absurd (cc)
  given_has rule.Refer (place.Node k) bound to o (occurrences.node types i a) e h = refer_given k types bound to o i a e h
