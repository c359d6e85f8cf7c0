use Rattle.std.proofs.Common.{◌≡◌, ◌∙◌, true, ap}
use Rattle.std.proofs.lemmas.Result.{IfOk-weaker}
use Rattle.occ_domains.specs.Domains.{slot, has, is_normal, only}
use Rattle.occ_domains.proofs.ExactLaws.{only_has, only_normal}
use Rattle.occ_domains.proofs.exact.only.Goals as goal

pub returns-clause-normal : goal.returns-clause-normal
returns-clause-normal c =
    let s = c.args.value in
    IfOk-weaker c.just.result (λ d. d ≡ only s) (λ d. is_normal d ≡ true) (λ d e. ap is_normal e ∙ only_normal s) c.just.ensures

pub returns-clause-has : goal.returns-clause-has
returns-clause-has c =
    let s = c.args.value in
    IfOk-weaker c.just.result (λ d. d ≡ only s) (λ d. has d (slot s) ≡ true) (λ d e. ap (λ x. has x (slot s)) e ∙ only_has c.order_is_total.ensures.reflexive s) c.just.ensures
