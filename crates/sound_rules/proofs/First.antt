-- The first domains have what comes of each occurrence under a solution.
use Rattle.std.proofs.Common.{◌≡◌, ◌∙◌, refl, sym, ap, subst, ℕ, zero, suc, ◌<◌, Bool, true, false, cond, List, [], ◌∷◌, length, slice_get, Option, Some, None, MatchOption, Contains}
use Rattle.std.proofs.lemmas.List.Elements.{All-contains}
use Rattle.eb_value.specs.declared.scope.Scope.{Scope}
use Rattle.eb_value.specs.declared.types.EbType.{EbType}
use Rattle.eb_value.specs.declared.value.Value.{Value}
use Rattle.eb_value.specs.Scopes.{vals}
use Rattle.type_table.specs.Rows.{Sort, predicate, expression}
use Rattle.eb_term.specs.declared.problem.Choice.{Choice}
use Rattle.eb_term.specs.declared.problem.Problem.{Problem}
use Rattle.eb_term.specs.declared.term.Term.{Term}
use Rattle.eb_term.specs.Nodes.{nodes_of}
use Rattle.eb_term.specs.Typed.{HasSort}
use Rattle.eb_operations.specs.declared.truth3.Truth3.{Truth3}
use Rattle.eb_operations.specs.declared.truth3.Truth3.TheVariants.{True, False, Undefined}
use Rattle.eb_meaning.specs.Meaning.{Slot, value_of, truth_in}
use Rattle.eb_meaning.specs.Fitting.{slot_has_type, AreOfTypes}
use Rattle.eb_meaning.specs.Problems.{IsValuation, IsSolution, IsTrueOf, outermost, slots_of, names_undefined}
use Rattle.term_types.specs.Types.{type_of}
use Rattle.problem_nodes.specs.declared.nodes.Above.{Above}
use Rattle.problem_nodes.specs.declared.nodes.Above.TheVariants as above
use Rattle.problem_nodes.specs.Places.{StandsBelow}
use Rattle.problem_nodes.specs.Aboves.{above_of}
use Rattle.occ_domains.specs.Domains.{Outcome, truth, slot, has}
use Rattle.occurrences.specs.declared.place.Place.TheVariants as place
use Rattle.occurrences.specs.Occurrences as occurrences
use Rattle.occurrences.specs.Occurrences.{StandsInside, Occurs}
use Rattle.occurrences.specs.Outcomes.{env_of, outcome_by, outcome_of, ComesAt, HaveWhatComes}
use Rattle.occurrences.specs.Stores.{truth_alone, all_truths, whole_by, whole_of, is_fact_above, is_fact, choice_domain, term_domain, first_domains}
use Rattle.occurrences.specs.Typed.{IsTyped}
use Rattle.node_rules.specs.Nodes.{whole_values}
use Rattle.sound_rules.proofs.Hypotheses.{TermLaws, NodeLaws, RuleLaws}
use Rattle.sound_rules.proofs.Slots.{are_of_types}
use Rattle.sound_rules.proofs.TypedNodes.{IsNode, typed_node, definition_node, started, same_there, contained, fact_outside, no_values}
use Rattle.sound_rules.proofs.Coming.{there, definition_outcome, definition_is}

-- a choice's value is among those of its type in the scope
valuation_at : (scope : Scope) (cs : List Choice) (vs : List Value) → IsValuation scope cs vs → (k : ℕ) (c : Choice) (v : Value) → slice_get cs k ≡ Some c → slice_get vs k ≡ Some v → Contains (vals scope c.ty) v
valuation_at scope [] vs h k c v e f = absurd (cc)
valuation_at scope (d ∷ cs) [] h k c v e f = absurd h
valuation_at scope (d ∷ cs) (w ∷ vs) h zero c v e f =
    let choice : d ≡ c = cc in
    let value : w ≡ v = cc in
    subst (λ x. Contains (vals scope x.ty) v) choice (subst (λ x. Contains (vals scope d.ty) x) value h.0)
valuation_at scope (d ∷ cs) (w ∷ vs) h (suc k) c v e f = valuation_at scope cs vs h.1 k c v e f

all_have : (q : Truth3) → has all_truths (truth q) ≡ true
all_have True = refl
all_have False = refl
all_have Undefined = refl

-- a fact that is True where it names nothing Undefined has that truth
own_truth : (b : Bool) (q : Truth3) → cond b Undefined q ≡ True → q ≡ True
own_truth true q e = absurd (cc)
own_truth false q e = e

fact_above : (o : Option Above) → is_fact_above o ≡ true → (number : ℕ) × (o ≡ Some (above.Fact number))
fact_above None e = absurd (cc)
fact_above (Some (above.Definition n)) e = absurd (cc)
fact_above (Some (above.Fact n)) e = (n, refl)
fact_above (Some (above.Part m n)) e = absurd (cc)

module _ (scope : Scope) (laws : TermLaws scope) (rules : RuleLaws scope) (p : Problem) (nodes : NodeLaws p) (typed : IsTyped scope p) (values : List Value) (solution : IsSolution scope p values) where
  abbrev slots : List Slot
  slots = slots_of scope p.definitions values

  slot_has : (ty : EbType) (s : Slot) → slot_has_type scope s ty ≡ true → has (whole_values scope ty) (slot s) ≡ true
  slot_has ty None h = refl
  slot_has ty (Some v) h = rules.whole ty v h

  -- all that may come of a typed term has what comes of it
  whole_has : (types : List EbType) (bound : List Value) (t : Term) → IsNode scope p slots types t → AreOfTypes scope bound types → has (whole_of scope t) (outcome_of scope (env_of slots bound) t) ≡ true
  whole_has types bound t node a = by node.sort node.typed where
    Has : Option EbType → Type 0
    Has o = has (whole_by scope o) (outcome_by o scope (env_of slots bound) t) ≡ true

    by : (s : Sort) → HasSort types t s → Has (type_of t)
    by predicate h = subst Has (sym (laws.truth types t h)) (all_have (truth_in scope (env_of slots bound) t))
    by (expression ty) h = subst Has (sym (laws.value types t ty h)) (slot_has ty (value_of scope (env_of slots bound) t) (laws.typed types t ty slots bound h node.fit a))

  choice_has : (k : ℕ) (bound : List Value) (o : Outcome) → k < length p.choices → ComesAt scope p values (place.Choice k) bound o → has (choice_domain scope (slice_get p.choices k)) o ≡ true
  choice_has k bound o l h = let c = there p.choices k l in by c.0 c.1 (slice_get values k) refl h where
    by : (c : Choice) → slice_get p.choices k ≡ Some c → (x : Option Value) → slice_get values k ≡ x → MatchOption x ⊥ (λ v. o ≡ slot (Some v)) → has (choice_domain scope (slice_get p.choices k)) o ≡ true
    by c e None f g = absurd g
    by c e (Some v) f g = subst (λ x. has (choice_domain scope x) o ≡ true) (sym e)
        (subst (λ x. has (choice_domain scope (Some c)) x ≡ true) (sym g) (rules.first c.ty v (valuation_at scope p.choices values solution.valuation k c v e f)))

  definition_has : (k : ℕ) (bound : List Value) (o : Outcome) → k < length p.definitions → ComesAt scope p values (place.Definition k) bound o → has (term_domain scope (slice_get p.definitions k)) o ≡ true
  definition_has k bound o l h =
      let d = there p.definitions k l in
      let e : o ≡ outcome_of scope (env_of slots []) d.0 =
      definition_is scope laws p nodes typed values solution.valuation k bound d.0 o d.1 h ∙ sym (definition_outcome scope laws p nodes typed values solution.valuation k d.0 d.1) in
      subst (λ x. has (term_domain scope x) o ≡ true) (sym d.1) (subst (λ x. has (whole_of scope d.0) x ≡ true) (sym e)
      (whole_has [] [] d.0 (definition_node scope laws p nodes typed slots (are_of_types scope laws p typed values solution.valuation) k d.0 d.1) tt))

  fact_has : (k : ℕ) (types : List EbType) (bound : List Value) (t : Term) → StandsInside p k types → AreOfTypes scope bound types → slice_get (nodes_of p) k ≡ Some t → is_fact p k ≡ true
      → has (truth_alone true) (outcome_of scope (env_of slots bound) t) ≡ true
  fact_has k types bound t i a e f =
      let number = fact_above (above_of p k) f in
      let s : StandsBelow p k (above.Fact number.0) = nodes.below k (above.Fact number.0) number.1 in
      let fact = started _ p.facts number.0 k s in
      let same : fact.0 ≡ t = same_there (nodes_of p) k fact.0 t (nodes.facts number.0 k fact.0 fact.1 s) e in
      let holds : IsTrueOf scope p.definitions values fact.0 = All-contains (IsTrueOf scope p.definitions values) p.facts fact.0 solution.facts (contained p.facts number.0 fact.0 fact.1) in
      let none : bound ≡ [] = no_values scope bound types a (fact_outside p nodes k number.0 types s i) in
      let true_there : truth_in scope (outermost slots) fact.0 ≡ True = own_truth (names_undefined slots fact.0) (truth_in scope (outermost slots) fact.0) holds in
      let comes : outcome_of scope (env_of slots []) fact.0 ≡ truth True =
      ap (λ o. outcome_by o scope (env_of slots []) fact.0) (laws.truth [] fact.0 (typed.facts fact.0 (contained p.facts number.0 fact.0 fact.1))) ∙ ap truth true_there in
      subst (λ b. has (truth_alone true) (outcome_of scope (env_of slots b) t) ≡ true) (sym none)
      (subst (λ x. has (truth_alone true) (outcome_of scope (env_of slots []) x) ≡ true) same
      (subst (λ x. has (truth_alone true) x ≡ true) (sym comes) refl))

  node_has : (k : ℕ) (types : List EbType) (bound : List Value) (o : Outcome) → StandsInside p k types → AreOfTypes scope bound types → ComesAt scope p values (place.Node k) bound o
      → has (first_domains scope p (place.Node k) bound) o ≡ true
  node_has k types bound o i a h = at (slice_get (nodes_of p) k) refl h (is_fact p k) refl where
    at : (x : Option Term) → slice_get (nodes_of p) k ≡ x → MatchOption x ⊥ (λ t. o ≡ outcome_of scope (env_of slots bound) t) → (b : Bool) → is_fact p k ≡ b
        → has (cond b (truth_alone true) (term_domain scope x)) o ≡ true
    at None e g b f = absurd g
    at (Some t) e g true f = subst (λ x. has (truth_alone true) x ≡ true) (sym g) (fact_has k types bound t i a e f)
    at (Some t) e g false f = subst (λ x. has (whole_of scope t) x ≡ true) (sym g)
        (whole_has types bound t (typed_node scope laws p nodes typed slots (are_of_types scope laws p typed values solution.valuation) k types i t e) a)

  -- each occurrence
  pub first_has : HaveWhatComes scope p values (first_domains scope p)
  first_has (place.Choice k) _ o (occurrences.choice l) h = choice_has k [] o l h
  first_has (place.Definition k) _ o (occurrences.definition l) h = definition_has k [] o l h
  first_has (place.Node k) bound o (occurrences.node types i a) h = node_has k types bound o i a h
