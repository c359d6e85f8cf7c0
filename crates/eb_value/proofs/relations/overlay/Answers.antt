use Rattle.eb_value.specs.Comprehensions as set
use Rattle.eb_value.proofs.ComprehensionLaws.{equals_from, overlay_is}
use Rattle.std.proofs.Common.{rules, ◌∙◌, ap, sym, subst}
use Rattle.std.proofs.lemmas.Result.{IfOk-weaker}
use Rattle.eb_value.specs.Sets.{IsSetOf, InUnion}
use Rattle.eb_value.specs.Relations as spec
use Rattle.eb_value.specs.steps.Merges.{merged}
use Rattle.eb_value.proofs.MergeLaws.{merged_set}
use Rattle.eb_value.proofs.RelationLaws.{overlay_set}
use Rattle.eb_value.proofs.relations.overlay.Goals as goal

pub returns-clause-is_set : goal.returns-clause-is_set
returns-clause-is_set c =
    let firsts : IsSetOf (spec.InDomain c.args.g.now) c.in_ok-firsts.firsts = search rules in
    let others : IsSetOf (spec.InDomDrop c.in_ok-firsts.firsts c.args.f.now) c.in_ok-others.others = search rules in
    let all_of = merged_set c.in_ok-others.others c.args.g.now others.ascending c.requires.over in
    IfOk-weaker c.merged.result _ (IsSetOf (spec.InOverlay c.args.f.now c.args.g.now))
    (λ all e. overlay_set c.args.f.now c.args.g.now c.in_ok-firsts.firsts c.in_ok-others.others all firsts others
    (subst (IsSetOf (InUnion c.in_ok-others.others c.args.g.now)) (sym (e ∙ ap (λ xs. merged xs c.as_slice-2.result.now) c.as_slice.ensures ∙ ap (merged c.in_ok-others.others) c.as_slice-2.ensures)) all_of))
    c.merged.ensures

pub returns-clause-equals : goal.returns-clause-equals
returns-clause-equals c = equals_from (spec.InOverlay c.args.f.now c.args.g.now) c.merged.result (set.overlay c.args.f.now c.args.g.now) (overlay_is c.args.f.now c.args.g.now) (returns-clause-is_set c)
