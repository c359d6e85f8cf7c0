use Rattle.split_budget.proofs.FirstVolume.{splits_within}
use Rattle.split_budget.proofs.laws.fresh_trees_split_within_their_valuations.Goals as goal

pub returns : goal.returns
returns c = λ scope p none tree holds.
    let counts = c.domains_have_counts.ensures in
    let domains = c.domains_have_their_outcomes.ensures in
    splits_within (record {
      meet = counts.meet;
      parts = counts.parts;
      filled = counts.filled;
      several = counts.several;
      setless_meet = counts.setless_meet;
      setless_parts = counts.setless_parts;
      first = counts.first;
      first_part = domains.first;
      second_part = domains.second;
      parts_filled = domains.filled;
      normal_meet = domains.normal_meet;
      normal_parts = domains.normal_parts;
      normal_first = domains.normal_first;
    }) scope p none holds
