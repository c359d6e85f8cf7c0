-- What comes of occurrences: of choices and definitions what their references stand for, of a definition what comes of its term.
use Rattle.std.proofs.Common.{◌≡◌, ◌∙◌, refl, sym, ap, subst, ℕ, zero, suc, ◌+◌, ◌-◌, ◌<◌, ⊎_elim, true, List, [], ◌∷◌, length, slice_get, Option, Some, None, MatchOption, arith}
use Rattle.std.specs.Prelude.{unwrap_or}
use Rattle.std.proofs.lemmas.Bool.{cases_lt}
use Rattle.std.proofs.lemmas.Option.{MatchOption-at_some, slice_get_within}
use Rattle.eb_value.specs.declared.scope.Scope.{Scope}
use Rattle.eb_value.specs.declared.types.EbType.{EbType}
use Rattle.eb_value.specs.declared.value.Value.{Value}
use Rattle.type_table.specs.Rows.{expression}
use Rattle.eb_term.specs.declared.problem.Problem.{Problem}
use Rattle.eb_term.specs.declared.term.Term.{Term}
use Rattle.eb_term.specs.Nodes.{nodes_of}
use Rattle.eb_term.specs.Typed.{HasSort}
use Rattle.eb_meaning.specs.Meaning.{Slot, slot_at, value_of}
use Rattle.eb_meaning.specs.Fitting.{AreOfTypes}
use Rattle.eb_meaning.specs.Problems.{IsValuation, outermost, slots_of}
use Rattle.term_types.specs.Types.{type_of}
use Rattle.occ_domains.specs.Domains.{Outcome, slot, has}
use Rattle.occurrences.specs.declared.place.Place.TheVariants as place
use Rattle.occurrences.specs.Occurrences as occurrences
use Rattle.occurrences.specs.Occurrences.{StandsInside, Occurs}
use Rattle.occurrences.specs.Outcomes.{env_of, outcome_by, outcome_of, ComesAt, HaveWhatComes}
use Rattle.occurrences.specs.Stores.{Domains}
use Rattle.occurrences.specs.Targets.{referred}
use Rattle.occurrences.specs.Typed.{IsTyped}
use Rattle.node_rules.specs.Sound.{PartsHave, ReferenceHas}
use Rattle.sound_rules.proofs.Hypotheses.{TermLaws, NodeLaws}
use Rattle.sound_rules.proofs.References.{refers}
use Rattle.sound_rules.proofs.Slots.{referred-choice, referred-definition, valuation-length, choice_slot, definition_slot}
use Rattle.sound_rules.proofs.TypedNodes.{IsNode, part_below}

-- a place of a list has an element
pub there : {A : Type 0} (xs : List A) (k : ℕ) → k < length xs → (x : A) × (slice_get xs k ≡ Some x)
there [] k l = absurd (omega arith)
there (x ∷ xs) zero l = (x, refl)
there (x ∷ xs) (suc k) l = there xs k (omega arith)

module _ (scope : Scope) (laws : TermLaws scope) (p : Problem) (nodes : NodeLaws p) (typed : IsTyped scope p) (values : List Value) (valuation : IsValuation scope p.choices values) where
  abbrev slots : List Slot
  slots = slots_of scope p.definitions values

  -- ---- of nodes

  -- what comes of a node is what comes of its term
  pub node_comes : (k : ℕ) (bound : List Value) (t : Term) → slice_get (nodes_of p) k ≡ Some t → ComesAt scope p values (place.Node k) bound (outcome_of scope (env_of slots bound) t)
  node_comes k bound t e = subst (λ o. MatchOption o ⊥ (λ u. outcome_of scope (env_of slots bound) t ≡ outcome_of scope (env_of slots bound) u)) (sym e) refl

  -- and nothing else
  pub node_is : (k : ℕ) (bound : List Value) (t : Term) (o : Outcome) → slice_get (nodes_of p) k ≡ Some t → ComesAt scope p values (place.Node k) bound o → o ≡ outcome_of scope (env_of slots bound) t
  node_is k bound t o e h = MatchOption-at_some ⊥ (λ u. o ≡ outcome_of scope (env_of slots bound) u) t e h

  -- ---- of definitions

  -- what comes of a definition's term is its value, or Undefined
  pub definition_outcome : (k : ℕ) (d : Term) → slice_get p.definitions k ≡ Some d → outcome_of scope (env_of slots []) d ≡ slot (value_of scope (outermost slots) d)
  definition_outcome k d e = at (type_of d) refl (typed.definitions k d e) where
    at : (o : Option EbType) → type_of d ≡ o → MatchOption o ⊥ (λ ty. HasSort [] d (expression ty)) → outcome_of scope (env_of slots []) d ≡ slot (value_of scope (outermost slots) d)
    at None q h = absurd h
    at (Some ty) q h = ap (λ o. outcome_by o scope (env_of slots []) d) q

  pub definition_comes : (k : ℕ) (bound : List Value) (d : Term) → slice_get p.definitions k ≡ Some d → ComesAt scope p values (place.Definition k) bound (slot (value_of scope (outermost slots) d))
  definition_comes k bound d e =
      subst (λ o. MatchOption o ⊥ (λ s. slot (value_of scope (outermost slots) d) ≡ slot s)) (sym (definition_slot scope laws p typed values valuation k d e)) refl

  pub definition_is : (k : ℕ) (bound : List Value) (d : Term) (o : Outcome) → slice_get p.definitions k ≡ Some d → ComesAt scope p values (place.Definition k) bound o
      → o ≡ slot (value_of scope (outermost slots) d)
  definition_is k bound d o e h = MatchOption-at_some ⊥ (λ s. o ≡ slot s) (value_of scope (outermost slots) d) (definition_slot scope laws p typed values valuation k d e) h

  -- ---- of what is referred to

  slot_is : (number : ℕ) (s : Slot) → slice_get slots number ≡ Some s → slot_at slots number ≡ s
  slot_is number s e = ap (λ o. unwrap_or o None) e

  value_is : (k : ℕ) (v : Value) → slice_get values k ≡ Some v → slot_at slots k ≡ Some v
  value_is k v e = slot_is k (Some v) (choice_slot scope laws p typed values valuation k v e)

  -- what comes of the place that a number refers to is what stands at the number
  pub referred_is : (number : ℕ) (bound : List Value) (o : Outcome) → ComesAt scope p values (referred (length p.choices) number) bound o → o ≡ slot (slot_at slots number)
  referred_is number bound o h = ⊎_elim
      (λ l. choice (slice_get values number) refl (subst (λ x. ComesAt scope p values x bound o) (referred-choice (length p.choices) number l) h))
      (λ l. let q : number ≡ length p.choices + (number - length p.choices) = omega arith in
      definition (number - length p.choices) q (slice_get slots (length p.choices + (number - length p.choices))) refl
      (subst (λ x. ComesAt scope p values x bound o) (referred-definition (length p.choices) number (number - length p.choices) q) h))
      (cases_lt number (length p.choices))
    where
      choice : (x : Option Value) → slice_get values number ≡ x → MatchOption x ⊥ (λ v. o ≡ slot (Some v)) → o ≡ slot (slot_at slots number)
      choice None e g = absurd g
      choice (Some v) e g = g ∙ ap slot (sym (value_is number v e))

      definition : (n : ℕ) → number ≡ length p.choices + n → (x : Option Slot) → slice_get slots (length p.choices + n) ≡ x → MatchOption x ⊥ (λ s. o ≡ slot s) → o ≡ slot (slot_at slots number)
      definition n q None e g = absurd g
      definition n q (Some s) e g = g ∙ ap slot (sym (slot_is number s (ap (slice_get slots) q ∙ e)))

  -- ---- where what comes of each occurrence is in its domain

  module _ (at : Domains) (have : HaveWhatComes scope p values at) where
    pub node_has : (k : ℕ) (types : List EbType) (bound : List Value) (t : Term) → StandsInside p k types → AreOfTypes scope bound types → slice_get (nodes_of p) k ≡ Some t
        → has (at (place.Node k) bound) (outcome_of scope (env_of slots bound) t) ≡ true
    node_has k types bound t i a e = have (place.Node k) bound (outcome_of scope (env_of slots bound) t) (occurrences.node types i a) (node_comes k bound t e)

    pub definition_has : (k : ℕ) (d : Term) → slice_get p.definitions k ≡ Some d → has (at (place.Definition k) []) (slot (value_of scope (outermost slots) d)) ≡ true
    definition_has k d e = have (place.Definition k) [] (slot (value_of scope (outermost slots) d)) (occurrences.definition (slice_get_within p.definitions k d e)) (definition_comes k [] d e)

    choice_has : (number : ℕ) → number < length p.choices → has (at (place.Choice number) []) (slot (slot_at slots number)) ≡ true
    choice_has number l =
        let r = there values number (omega (arith, l, valuation-length scope p.choices values valuation)) in
        have (place.Choice number) [] (slot (slot_at slots number)) (occurrences.choice l)
        (subst (λ x. MatchOption x ⊥ (λ v. slot (slot_at slots number) ≡ slot (Some v))) (sym r.1) (ap slot (value_is number r.0 r.1)))

    pub referred_has : (number : ℕ) → number < length p.choices + length p.definitions → has (at (referred (length p.choices) number) []) (slot (slot_at slots number)) ≡ true
    referred_has number within = ⊎_elim
        (λ l. subst (λ x. has (at x []) (slot (slot_at slots number)) ≡ true) (sym (referred-choice (length p.choices) number l)) (choice_has number l))
        (λ l. definition (number - length p.choices) (omega (arith, l)))
        (cases_lt number (length p.choices))
      where
        definition : (n : ℕ) → number ≡ length p.choices + n → has (at (referred (length p.choices) number) []) (slot (slot_at slots number)) ≡ true
        definition n q =
            let r = there p.definitions n (omega (arith, q, within)) in
            let s : slot_at slots number ≡ value_of scope (outermost slots) r.0 = slot_is number _ (ap (slice_get slots) q ∙ definition_slot scope laws p typed values valuation n r.0 r.1) in
            subst (λ x. has (at x []) (slot (slot_at slots number)) ≡ true) (sym (referred-definition (length p.choices) number n q))
            (subst (λ x. has (at (place.Definition n) []) (slot x) ≡ true) (sym s) (definition_has n r.0 r.1))

    -- what the rules at a node rest on

    pub parts_have : (k : ℕ) (types : List EbType) (bound : List Value) (t : Term) → StandsInside p k types → AreOfTypes scope bound types → slice_get (nodes_of p) k ≡ Some t → PartsHave scope at slots bound k t
    parts_have k types bound t i a e = λ n j u f g b.
        node_has j types bound u (occurrences.beside k n t (part_below p nodes j k n t e g) e b i) a (nodes.parts k n j t u e f g)

    pub reference_has : (types : List EbType) (t : Term) → IsNode scope p slots types t → ReferenceHas (length p.choices) at slots t
    reference_has types t node = λ number ty e. referred_has number (node.refers number (refers t number ty e))
