use Rattle.refutation_trees.proofs.ClosingLines.{holds_anywhere}
use Rattle.refutation_trees.proofs.Soundness.{refuted}
use Rattle.refutation_trees.proofs.laws.closed_trees_refute.Goals as goal

pub returns : goal.returns
returns c = λ scope low high p typed standing tree holds none values solution.
    let rules = c.rules_keep_what_comes.ensures in
    let domains = c.domains_have_their_outcomes.ensures in
    refuted {scope = scope} {p = p} {values = values} (record {
      solution = solution;
      rules = rules.rules scope low high p typed values solution.valuation;
      there = rules.there scope low high p typed values solution.valuation;
      split = rules.split scope low high p typed values solution.valuation;
      none = domains.none;
      single = domains.single;
    }) (holds_anywhere holds) (rules.first scope low high p typed values solution) none
