-- Something comes of each occurrence, and one thing alone; so of the two parts of a domain by a test one has it.
use Rattle.std.proofs.Common.{◌≡◌, ◌∙◌, refl, sym, ap, ap₂, subst, ℕ, suc, ◌<◌, ◌⊎◌, inl, inr, Bool, true, false, not, ◌&&◌, List, [], slice_get, Option, Some, None, MatchOption}
use Rattle.std.proofs.lemmas.Option.{MatchOption-at_some}
use Rattle.eb_value.specs.declared.scope.Scope.{Scope}
use Rattle.eb_value.specs.declared.types.EbType.{EbType}
use Rattle.eb_value.specs.declared.value.Value.{Value}
use Rattle.eb_term.specs.declared.problem.Problem.{Problem}
use Rattle.eb_term.specs.declared.term.Term.{Term}
use Rattle.eb_term.specs.Nodes.{nodes_of}
use Rattle.eb_meaning.specs.Problems.{IsValuation, slots_of}
use Rattle.problem_nodes.specs.Places.{parts, part_numbers}
use Rattle.occ_domains.specs.declared.domain.Domain.{Domain}
use Rattle.occ_domains.specs.declared.tests.Test.{Test}
use Rattle.occ_domains.specs.Domains.{Outcome, slot, has}
use Rattle.occ_domains.specs.Tests as tests
use Rattle.occurrences.specs.declared.place.Place.{Place}
use Rattle.occurrences.specs.declared.place.Place.TheVariants as place
use Rattle.occurrences.specs.Occurrences as occurrences
use Rattle.occurrences.specs.Occurrences.{StandsInside, Occurs}
use Rattle.occurrences.specs.Outcomes.{env_of, outcome_of, ComesAt, HaveWhatComes}
use Rattle.occurrences.specs.Stores.{Domains, with_domain}
use Rattle.occurrences.specs.Typed.{IsTyped}
use Rattle.sound_rules.proofs.Hypotheses.{TermLaws, NodeLaws}
use Rattle.sound_rules.proofs.Coming.{there, node_comes, definition_comes}
use Rattle.sound_rules.proofs.Slots.{valuation-length}
use Rattle.sound_rules.proofs.Stores.{replaced}
use Rattle.sound_rules.proofs.TypedNodes.{started}

one_alone : {A : Type 0} (f : A → Outcome) (x : Option A) (o z : Outcome) → MatchOption x ⊥ (λ v. o ≡ f v) → MatchOption x ⊥ (λ v. z ≡ f v) → o ≡ z
one_alone f None o z h g = absurd h
one_alone f (Some v) o z h g = h ∙ sym g

pub once : (scope : Scope) (p : Problem) (values : List Value) (at : Place) (bound : List Value) (o z : Outcome) → ComesAt scope p values at bound o → ComesAt scope p values at bound z → o ≡ z
once scope p values (place.Choice k) bound o z h g = one_alone (λ v. slot (Some v)) _ o z h g
once scope p values (place.Definition k) bound o z h g = one_alone slot _ o z h g
once scope p values (place.Node k) bound o z h g = one_alone (λ t. outcome_of scope (env_of (slots_of scope p.definitions values) bound) t) _ o z h g

-- a node that stands somewhere is there
node_there : (p : Problem) (nodes : NodeLaws p) (k : ℕ) (types : List EbType) → StandsInside p k types → (t : Term) × (slice_get (nodes_of p) k ≡ Some t)
node_there p nodes k _ (occurrences.definition number b) = let r = started 0 p.definitions number k b in (r.0, nodes.definitions number k r.0 r.1 b)
node_there p nodes k _ (occurrences.fact number b) = let r = started _ p.facts number k b in (r.0, nodes.facts number k r.0 r.1 b)
node_there p nodes k types (occurrences.beside number n u b f g i) =
    let s : slice_get (part_numbers number u) n ≡ Some k = MatchOption-at_some ⊥ (λ w. slice_get (part_numbers number w) n ≡ Some k) u f b in
    let r = started (suc number) (parts u) n k s in (r.0, nodes.parts number n k u r.0 f r.1 s)
node_there p nodes k _ (occurrences.within number n u ty b f g i) =
    let s : slice_get (part_numbers number u) n ≡ Some k = MatchOption-at_some ⊥ (λ w. slice_get (part_numbers number w) n ≡ Some k) u f b in
    let r = started (suc number) (parts u) n k s in (r.0, nodes.parts number n k u r.0 f r.1 s)

module _ (scope : Scope) (laws : TermLaws scope) (p : Problem) (nodes : NodeLaws p) (typed : IsTyped scope p) (values : List Value) (valuation : IsValuation scope p.choices values) where
  -- something comes of each occurrence
  pub something_comes : (at : Place) (bound : List Value) → Occurs scope p at bound → (o : Outcome) × ComesAt scope p values at bound o
  something_comes (place.Choice k) _ (occurrences.choice l) =
      let r = there values k (subst (λ n. k < n) (sym (valuation-length scope p.choices values valuation)) l) in
      (slot (Some r.0), subst (λ x. MatchOption x ⊥ (λ v. slot (Some r.0) ≡ slot (Some v))) (sym r.1) refl)
  something_comes (place.Definition k) _ (occurrences.definition l) =
      let r = there p.definitions k l in (_, definition_comes scope laws p nodes typed values valuation k [] r.0 r.1)
  something_comes (place.Node k) bound (occurrences.node types i a) =
      let r = node_there p nodes k types i in (_, node_comes scope laws p nodes typed values valuation k bound r.0 r.1)

  module _ (at : Domains) (have : HaveWhatComes scope p values at) (to : Place) (bound : List Value) (occurs : Occurs scope p to bound) where
    abbrev Has : Place → List Value → Domain → Type 0
    Has other others d = (o : Outcome) → Occurs scope p other others → ComesAt scope p values other others o → has d o ≡ true

    part_has : (d : Domain) (o : Outcome) → ComesAt scope p values to bound o → has d o ≡ true → HaveWhatComes scope p values (with_domain at to bound d)
    part_has d o h e other others z n g =
        replaced laws.exact Has at to other bound others d
        (λ q r. subst (λ x. Has x others d) q (subst (λ vs. Has to vs d) r (λ y m c. ap (has d) (once scope p values to bound y o c h) ∙ e)))
        (have other others) z n g

    -- of the two parts of a domain by a test one may stand in its stead
    pub split_has : (t : Test) (two : Domain × Domain)
        → ((o : Outcome) → has two.0 o ≡ (has (at to bound) o && tests.passes t o)) → ((o : Outcome) → has two.1 o ≡ (has (at to bound) o && not (tests.passes t o)))
        → HaveWhatComes scope p values (with_domain at to bound two.0) ⊎ HaveWhatComes scope p values (with_domain at to bound two.1)
    split_has t two first second = by (tests.passes t r.0) refl where
      r : (o : Outcome) × ComesAt scope p values to bound o
      r = something_comes to bound occurs

      by : (b : Bool) → tests.passes t r.0 ≡ b → HaveWhatComes scope p values (with_domain at to bound two.0) ⊎ HaveWhatComes scope p values (with_domain at to bound two.1)
      by true e = inl (part_has two.0 r.0 r.1 (first r.0 ∙ ap₂ (λ x y. x && y) (have to bound r.0 occurs r.1) e))
      by false e = inr (part_has two.1 r.0 r.1 (second r.0 ∙ ap₂ (λ x y. x && not y) (have to bound r.0 occurs r.1) e))
