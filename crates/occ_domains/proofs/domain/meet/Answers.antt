use Rattle.std.proofs.Common.{true, ◌≡◌, ◌&&◌, ◌∙◌, ap}
use Rattle.std.proofs.lemmas.Result.{IfOk-weaker}
use Rattle.occ_domains.specs.Domains.{Outcome, has, is_normal, meet}
use Rattle.occ_domains.proofs.DomainLaws.{meet_has, meet_normal}
use Rattle.occ_domains.proofs.domain.meet.Goals as goal

pub returns-clause-has : goal.returns-clause-has
returns-clause-has c =
    let a = c.args.a.now in
    let b = c.args.b.now in
    IfOk-weaker c.common.result (λ d. d ≡ meet a b) (λ d. (o : Outcome) → has d o ≡ (has a o && has b o)) (λ d e o. ap (λ x. has x o) e ∙ meet_has c.order_is_total.ensures.exact a b o) c.common.ensures

pub returns-clause-normal : goal.returns-clause-normal
returns-clause-normal c h =
    let a = c.args.a.now in
    let b = c.args.b.now in
    IfOk-weaker c.common.result (λ d. d ≡ meet a b) (λ d. is_normal d ≡ true) (λ d e. ap is_normal e ∙ meet_normal c.order_is_total.ensures.transitive a b h) c.common.ensures
