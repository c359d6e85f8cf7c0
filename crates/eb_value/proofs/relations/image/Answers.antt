use Rattle.eb_value.specs.Comprehensions as set
use Rattle.eb_value.proofs.ComprehensionLaws.{equals_from, image_is}
use Rattle.std.proofs.Common.{rules}
use Rattle.std.proofs.lemmas.Result.{IfOk-weaker}
use Rattle.eb_value.specs.Sets.{IsSetOf}
use Rattle.eb_value.specs.Relations as spec
use Rattle.eb_value.proofs.RelationLaws.{image_set}
use Rattle.eb_value.proofs.relations.image.Goals as goal

pub returns-clause-is_set : goal.returns-clause-is_set
returns-clause-is_set c = IfOk-weaker c.range.result _ (IsSetOf (spec.InImage c.args.r.now c.args.s.now))
    (λ all e. image_set c.args.r.now c.args.s.now c.in_ok-pairs.pairs all (search rules) e)
    c.range.ensures.is_set

pub returns-clause-equals : goal.returns-clause-equals
returns-clause-equals c = equals_from (spec.InImage c.args.r.now c.args.s.now) c.range.result (set.image c.args.r.now c.args.s.now) (image_is c.args.r.now c.args.s.now) (returns-clause-is_set c)
