use Rattle.eb_value.specs.Comprehensions as set
use Rattle.eb_value.proofs.ComprehensionLaws.{equals_from, ran_keep_is}
use Rattle.std.proofs.Common.{◌∙◌, filter, ap, sym, subst}
use Rattle.std.proofs.lemmas.Result.{IfOk-weaker}
use Rattle.eb_value.specs.Sets.{IsSetOf}
use Rattle.eb_value.specs.Relations as spec
use Rattle.eb_value.proofs.RelationLaws.{ran_keep_set}
use Rattle.eb_value.proofs.relations.ran_keep.Goals as goal

pub returns-clause-is_set : goal.returns-clause-is_set
returns-clause-is_set c = IfOk-weaker c.kept_by_second.result _ (IsSetOf (spec.InRanKeep c.args.r.now c.args.s.now))
    (λ all e. subst (IsSetOf (spec.InRanKeep c.args.r.now c.args.s.now)) (sym (e ∙ ap (filter _) c.as_slice.ensures)) (ran_keep_set c.args.r.now c.args.s.now c.requires.relation))
    c.kept_by_second.ensures

pub returns-clause-equals : goal.returns-clause-equals
returns-clause-equals c = equals_from (spec.InRanKeep c.args.r.now c.args.s.now) c.kept_by_second.result (set.ran_keep c.args.r.now c.args.s.now) (ran_keep_is c.args.r.now c.args.s.now) (returns-clause-is_set c)
