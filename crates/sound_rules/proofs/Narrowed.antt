-- The store after a rule has what comes of each occurrence where the store before it has.
use Rattle.std.proofs.Common.{◌≡◌, ◌∙◌, ap₂, subst, true, ◌&&◌, Some, List}
use Rattle.eb_value.specs.declared.scope.Scope.{Scope}
use Rattle.eb_value.specs.declared.value.Value.{Value}
use Rattle.eb_term.specs.declared.problem.Problem.{Problem}
use Rattle.eb_meaning.specs.Problems.{IsValuation}
use Rattle.occ_domains.specs.declared.domain.Domain.{Domain}
use Rattle.occ_domains.specs.Domains.{Outcome, has}
use Rattle.occurrences.specs.declared.place.Place.{Place}
use Rattle.occurrences.specs.declared.place.Rule.{Rule}
use Rattle.occurrences.specs.Occurrences.{Occurs}
use Rattle.occurrences.specs.Outcomes.{ComesAt, HaveWhatComes}
use Rattle.occurrences.specs.Stores.{Domains}
use Rattle.occurrences.specs.Targets.{target, target_bound}
use Rattle.occurrences.specs.Typed.{IsTyped}
use Rattle.node_rules.specs.Narrowing.{given, met, narrowed}
use Rattle.sound_rules.proofs.Hypotheses.{TermLaws, NodeLaws, RuleLaws}
use Rattle.sound_rules.proofs.Stores.{replaced}
use Rattle.sound_rules.proofs.Given.{given_has}

module _ (scope : Scope) (laws : TermLaws scope) (rules : RuleLaws scope) (p : Problem) (nodes : NodeLaws p) (typed : IsTyped scope p) (values : List Value) (valuation : IsValuation scope p.choices values) (at : Domains)
    (have : HaveWhatComes scope p values at) (r : Rule) (from : Place) (bound : List Value) (to : Place) (occurs : Occurs scope p from bound) (is : target p r from ≡ Some to) where
  -- what comes of the target is in what its domain has in common with what the rule gives
  met_has : (o : Outcome) → Occurs scope p to (target_bound r bound) → ComesAt scope p values to (target_bound r bound) o → has (met scope p at r from bound to) o ≡ true
  met_has o n h =
      rules.meet (at to (target_bound r bound)) (given scope p at r from bound) o
      ∙ ap₂ (λ x y. x && y) (have to (target_bound r bound) o n h) (given_has scope laws rules p nodes typed values valuation at have r from bound to o occurs is h)

  -- what comes of an occurrence is in the domain
  abbrev Has : Place → List Value → Domain → Type 0
  Has place others d = (o : Outcome) → Occurs scope p place others → ComesAt scope p values place others o → has d o ≡ true

  -- at the target what is met has it, elsewhere the store before
  pub narrowed_has : HaveWhatComes scope p values (narrowed scope p at r from bound to)
  narrowed_has place others o n h =
      replaced laws.exact Has at to place (target_bound r bound) others (met scope p at r from bound to)
      (λ e f. subst (λ x. Has x others (met scope p at r from bound to)) e (subst (λ vs. Has to vs (met scope p at r from bound to)) f met_has))
      (have place others) o n h
