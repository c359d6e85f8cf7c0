use Rattle.eb_narrow.proofs.Hypotheses.{Laws}
use Rattle.eb_narrow.proofs.Kept.{kept_value, kept_truth}
use Rattle.eb_narrow.proofs.laws.narrow_form_keeps_the_meaning.Goals as goal

pub returns : goal.returns
returns c =
    let order = c.order_is_total.ensures in
    let parts = c.canonical_values_have_canonical_parts.ensures in
    let canonical = c.operators_keep_values_canonical.ensures in
    let types = c.operators_keep_types.ensures in
    let laws : Laws = record {
      reflexive = order.reflexive;
      exact = order.exact;
      determine = c.members_determine_ascending_lists.ensures;
      canonical = parts.typed;
      sets = parts.sets;
      set_of = canonical.set_of;
      union = canonical.union;
      domain = canonical.domain;
      range = canonical.range;
      domain_type = types.domain;
      range_type = types.range;
      listed = parts.listed;
      complete = c.values_are_complete.ensures;
      bounds = c.integers_lie_within_bounds.ensures;
      typed = c.typed_terms_have_values_of_their_types.ensures;
    } in
    record { value = kept_value laws; truth = kept_truth laws }
