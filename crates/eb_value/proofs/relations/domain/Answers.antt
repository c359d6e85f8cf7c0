use Rattle.eb_value.specs.Relations
use Rattle.eb_value.specs.Comprehensions as set
use Rattle.eb_value.proofs.ComprehensionLaws.{one_set, domain_is}
use Rattle.std.proofs.Common.{◌≡◌, subst, rules}
use Rattle.std.specs.List.{Contains, filter_map}
use Rattle.eb_value.specs.Sets.{IsSetOf}
use Rattle.eb_value.specs.steps.Joins
use Rattle.eb_value.specs.declared.relations.Part.TheVariants as part
use Rattle.eb_value.proofs.RelationLaws.{domain_set}
use Rattle.eb_value.proofs.relations.domain.Goals as goal

pub returns-clause-is_set : goal.returns-clause-is_set
returns-clause-is_set c =
    let taken : c.in_ok-parts.field-0.items ≡ filter_map (Joins.part_of part.First) c.args.r.now = search rules in
    domain_set c.args.r.now c.set_of.result (subst (λ xs. IsSetOf (Contains xs) c.set_of.result) taken c.set_of.ensures.is_set)

pub returns-clause-equals : goal.returns-clause-equals
returns-clause-equals c = one_set (Relations.InDomain c.args.r.now) c.set_of.result (set.domain c.args.r.now) (returns-clause-is_set c) (domain_is c.args.r.now)
