use Rattle.std.proofs.Common.{◌∙◌, ⊎_elim, ap}
use Rattle.eb_syntax.specs.declared.ast.Operator.TheVariants as op
use Rattle.eb_wd.specs.WellDefined as spec
use Rattle.eb_wd.proofs.WellDefinedAt as at
use Rattle.eb_wd.proofs.WellDefinedAt.{becomes}
use Rattle.eb_wd.proofs.well_defined.+defining.Goals as goal

pub returns-in-Finite : goal.returns-in-Finite
returns-in-Finite t c = becomes c.defined.result _ _ (ap spec.is_defined c.get-in-Finite.ensures ∙ at.finite c.args.term.now c.in-Unary.part _ _ c.in-Unary.is c.in-Call.is c.in-Finite.is) c.defined.ensures

pub returns-in-Functional : goal.returns-in-Functional
returns-in-Functional t c = becomes c.defined-in-Functional.result _ _ (ap spec.is_defined c.get-in-Functional.ensures ∙ at.functional c.args.term.now c.in-Unary.part _ c.in-Unary.is c.in-Functional.is) c.defined-in-Functional.ensures

pub returns-in-Partition : goal.returns-in-Partition
returns-in-Partition t c = becomes c.all_defined.result _ _ (ap spec.all_defined c.as_slice.ensures ∙ at.partition c.args.term.now c.in-Many.parts _ c.in-Many.is c.in-Partition.is) c.all_defined.ensures

pub returns-in_ok-second-in-Or : goal.returns-in_ok-second-in-Or
returns-in_ok-second-in-Or t c = becomes c.guarded.result _ _
    (at.guarded op.Or c.in-Binary.left c.in-Binary.right c.get-in-Or.result.now c.get-in-Or-2.result.now c.get-in-Or-3.result.now c.in_ok-first-in-Or.first c.in_ok-second-in-Or.second
    c.get-in-Or.ensures c.get-in-Or-2.ensures c.get-in-Or-3.ensures c.in_ok-first-in-Or.ensures c.in_ok-second-in-Or.ensures
    ∙ at.or c.args.term.now c.in-Binary.left c.in-Binary.right _ _ c.in-Binary.is c.in-Operator.is c.in-Or.is)
    c.guarded.ensures

pub returns-in_ok-second-in-And : goal.returns-in_ok-second-in-And
returns-in_ok-second-in-And t c = becomes c.guarded-in-And.result _ _
    (at.guarded op.Implies c.in-Binary.left c.in-Binary.right c.get-in-And.result.now c.get-in-And-2.result.now c.get-in-And-3.result.now c.in_ok-first-in-And.first c.in_ok-second-in-And.second
    c.get-in-And.ensures c.get-in-And-2.ensures c.get-in-And-3.ensures c.in_ok-first-in-And.ensures c.in_ok-second-in-And.ensures
    ∙ ⊎_elim (λ e. at.and c.args.term.now c.in-Binary.left c.in-Binary.right _ _ c.in-Binary.is c.in-Operator.is e)
    (λ e. at.implies c.args.term.now c.in-Binary.left c.in-Binary.right _ _ c.in-Binary.is c.in-Operator.is e) c.in-And.is)
    c.guarded-in-And.ensures

pub returns-in_ok-body-in-ForAll : goal.returns-in_ok-body-in-ForAll
returns-in_ok-body-in-ForAll t c = becomes c.over_range.result _ _
    (at.over_range c.in-Over.range c.in-Over.body c.get-in-ForAll-2.result.now c.get-in-ForAll.result.now c.in_ok-body-in-ForAll.body c.get-in-ForAll-2.ensures c.get-in-ForAll.ensures c.in_ok-body-in-ForAll.ensures
    ∙ ⊎_elim (λ e. at.for_all c.args.term.now c.in-Over.range c.in-Over.body _ c.in-Over.is e) (λ e. at.exists c.args.term.now c.in-Over.range c.in-Over.body _ c.in-Over.is e) c.in-ForAll.is)
    c.over_range.ensures

pub returns-in_default-operator-2 : goal.returns-in_default-operator-2
returns-in_default-operator-2 t c =
    let no = c.in_default-operator-2 in
    becomes c.relation.result _ _
    (at.relation_of c.in-Operator.operator c.in-Binary.left c.in-Binary.right c.get-in_default-operator-2.result.now c.get-in_default-operator-2-2.result.now c.get-in_default-operator-2.ensures c.get-in_default-operator-2-2.ensures
    ∙ at.relation c.args.term.now c.in-Binary.left c.in-Binary.right _ _ c.in-Binary.is c.in-Operator.is
    (record { no_implies = no.not-Implies; no_equivalent = no.not-Equivalent; no_or = no.not-Or; no_and = no.not-And }))
    c.relation.ensures
