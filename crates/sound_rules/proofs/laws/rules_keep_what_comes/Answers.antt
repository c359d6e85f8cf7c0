use Rattle.std.proofs.Common.{◌≤ℤ◌, pos, negsuc}
use Rattle.eb_value.specs.declared.scope.Scope.{Scope}
use Rattle.eb_term.specs.declared.problem.Problem.{Problem}
use Rattle.sound_rules.proofs.Hypotheses.{TermLaws, NodeLaws, RuleLaws}
use Rattle.sound_rules.proofs.First.{first_has}
use Rattle.sound_rules.proofs.Narrowed.{narrowed_has}
use Rattle.sound_rules.proofs.Splits.{once, something_comes, split_has}
use Rattle.sound_rules.proofs.Targets.{target_occurs}
use Rattle.sound_rules.proofs.laws.rules_keep_what_comes.Goals as goal

pub returns : goal.returns
returns c =
    let places = c.nodes_have_their_places.ensures in
    let kinds = c.types_are_those_of_the_typing.ensures in
    let bodies = c.bodies_have_their_values.ensures in
    let terms : (scope : Scope) → negsuc 4611686018427387903 ≤ℤ scope.lo → scope.hi ≤ℤ pos 4611686018427387904 → TermLaws scope = λ scope low high. record {
      exact = c.order_is_total.ensures.exact;
      complete = λ ty v h. ((c.values_are_complete.ensures scope low high ty v).0 h).0;
      value = kinds.value;
      truth = kinds.truth;
      typed = λ types t ty refs bound h f a. c.typed_terms_have_values_of_their_types.ensures scope low high types t ty refs bound h f a;
      alike = λ t refs others bound h. c.terms_look_at_their_references_alone.ensures.value scope t refs others bound h;
    } in
    let nodes : (p : Problem) → NodeLaws p = λ p. record {
      definitions = places.definitions p;
      facts = places.facts p;
      parts = λ number n k t u e f g. places.parts p number n k t u e f g;
      once = λ k a b s r. places.once p k a b s r;
      below = λ k a e. (places.above p k a).1 e;
    } in
    let rules : (scope : Scope) → negsuc 4611686018427387903 ≤ℤ scope.lo → scope.hi ≤ℤ pos 4611686018427387904 → RuleLaws scope = λ scope low high. record {
      meet = c.domains_have_their_outcomes.ensures.meet;
      whole = bodies.whole scope;
      first = λ ty v h. bodies.first scope low high ty v h;
      up = λ choices at refs bound types k t s h f a ps r. c.up_is_sound.ensures scope low high choices at refs bound types k t s h f a ps r;
      down = λ at refs bound types k t s h f a ps n u d e g w. c.down_is_sound.ensures scope low high at refs bound types k t s h f a ps n u d e g w;
    } in
    record {
      first = λ scope low high p typed values solution. first_has scope (terms scope low high) (rules scope low high) p (nodes p) typed values solution;
      rules = λ scope low high p typed values valuation at have rule from bound to occurs is.
          narrowed_has scope (terms scope low high) (rules scope low high) p (nodes p) typed values valuation at have rule from bound to occurs is;
      targets = λ scope low high p typed rule from bound to occurs is. target_occurs scope (terms scope low high) p (nodes p) typed rule from bound to occurs is;
      there = λ scope low high p typed values valuation place bound occurs. something_comes scope (terms scope low high) p (nodes p) typed values valuation place bound occurs;
      once = once;
      split = λ scope low high p typed values valuation at have place bound occurs t two is.
          split_has scope (terms scope low high) p (nodes p) typed values valuation at have place bound occurs t two
          (c.domains_have_their_outcomes.ensures.first (at place bound) t two is) (c.domains_have_their_outcomes.ensures.second (at place bound) t two is);
    }
