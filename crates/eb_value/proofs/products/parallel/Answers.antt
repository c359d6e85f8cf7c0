use Rattle.eb_value.specs.Relations
use Rattle.eb_value.specs.Comprehensions as set
use Rattle.eb_value.proofs.ComprehensionLaws.{one_set, parallel_is}
use Rattle.std.proofs.Common.{◌≡◌, subst, rules}
use Rattle.std.specs.List.{Contains}
use Rattle.eb_value.specs.Sets.{IsSetOf}
use Rattle.eb_value.specs.steps.Joins
use Rattle.eb_value.specs.declared.products.Join.TheVariants as join
use Rattle.eb_value.proofs.ProductLaws.{parallel_set}
use Rattle.eb_value.proofs.products.parallel.Goals as goal

pub returns-clause-is_set : goal.returns-clause-is_set
returns-clause-is_set c =
    let made : c.in_ok-joins.field-0.items ≡ Joins.joins join.Parallel c.args.r.now c.args.s.now = search rules in
    parallel_set c.args.r.now c.args.s.now c.set_of.result (subst (λ xs. IsSetOf (Contains xs) c.set_of.result) made c.set_of.ensures.is_set)

pub returns-clause-equals : goal.returns-clause-equals
returns-clause-equals c = one_set (Relations.InParallel c.args.r.now c.args.s.now) c.set_of.result (set.parallel c.args.r.now c.args.s.now) (returns-clause-is_set c) (parallel_is c.args.r.now c.args.s.now)
