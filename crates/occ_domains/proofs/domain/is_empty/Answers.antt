use Rattle.std.proofs.Common.{◌∙◌, sym}
use Rattle.occ_domains.proofs.DomainLaws.{empty_has_nothing, nothing_is_empty}
use Rattle.occ_domains.proofs.domain.is_empty.Goals as goal

pub returns-clause-none : goal.returns-clause-none
returns-clause-none c normal = (
  λ h. empty_has_nothing c.args.d.now (sym c.has_nothing.ensures ∙ h),
  λ none. c.has_nothing.ensures ∙ nothing_is_empty c.order_is_total.ensures.reflexive c.args.d.now normal none,
)
