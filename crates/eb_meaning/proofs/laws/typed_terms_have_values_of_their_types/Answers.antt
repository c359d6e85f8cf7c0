use Rattle.eb_meaning.proofs.Hypotheses.{Laws}
use Rattle.eb_meaning.proofs.TypedValues.{typed_value}
use Rattle.eb_meaning.proofs.laws.typed_terms_have_values_of_their_types.Goals as goal

pub returns : goal.returns
returns c =
    let types = c.operators_keep_types.ensures in
    let canonical = c.operators_keep_values_canonical.ensures in
    let parts = c.canonical_values_have_canonical_parts.ensures in
    let laws : Laws = record {
      types = record { set_of = types.set_of; union = types.union; meet = types.meet; minus = types.minus; cross = types.cross; domain = types.domain; range = types.range; inverse = types.inverse; dom_keep = types.dom_keep; dom_drop = types.dom_drop; ran_keep = types.ran_keep; ran_drop = types.ran_drop; image = types.image; overlay = types.overlay; compose = types.compose; direct = types.direct; parallel = types.parallel; apply = types.apply; union_of = types.union_of; meet_of = types.meet_of; integers = types.integers };
      canonical = record { set_of = canonical.set_of; union = canonical.union; meet = canonical.meet; minus = canonical.minus; cross = canonical.cross; domain = canonical.domain; range = canonical.range; inverse = canonical.inverse; dom_keep = canonical.dom_keep; dom_drop = canonical.dom_drop; ran_keep = canonical.ran_keep; ran_drop = canonical.ran_drop; image = canonical.image; overlay = canonical.overlay; compose = canonical.compose; direct = canonical.direct; parallel = canonical.parallel; union_all = canonical.union_all; meet_all = canonical.meet_all; integers = canonical.integers };
      parts = record { sets = parts.sets; all = parts.all; typed = parts.typed };
      complete = c.values_are_complete.ensures;
    } in
    typed_value laws
