use Rattle.std.proofs.Common.{◌≡◌, ◌∙◌, true, ap, sym}
use Rattle.std.proofs.lemmas.Result.{IfOk-weaker}
use Rattle.eb_value.specs.declared.value.Value.{Value}
use Rattle.eb_value.specs.Typing.{has_type}
use Rattle.occ_domains.specs.Bodies.{has, is_normal}
use Rattle.occ_domains.specs.Wholes.{whole}
use Rattle.occ_domains.proofs.WholeLaws.{whole_each, whole_alone, whole_normal}
use Rattle.occ_domains.proofs.wholes.whole.Goals as goal

pub returns-clause-normal : goal.returns-clause-normal
returns-clause-normal c =
    let t = c.args.ty.now in
    let scope = c.args.scope.now in
    IfOk-weaker c.unbounded.result (λ b. b ≡ whole scope t) (λ b. is_normal b ≡ true)
    (λ b e. ap is_normal e ∙ whole_normal c.values_are_ascending.ensures scope t) c.unbounded.ensures

pub returns-clause-each : goal.returns-clause-each
returns-clause-each c =
    let t = c.args.ty.now in
    let scope = c.args.scope.now in
    IfOk-weaker c.unbounded.result (λ b. b ≡ whole scope t) (λ b. (v : Value) → has_type scope v t ≡ true → has b v ≡ true)
    (λ b e v h. ap (λ x. has x v) e ∙ whole_each c.order_is_total.ensures.reflexive c.values_are_complete.ensures scope t v h) c.unbounded.ensures

pub returns-clause-alone : goal.returns-clause-alone
returns-clause-alone c u =
    let t = c.args.ty.now in
    let scope = c.args.scope.now in
    IfOk-weaker c.unbounded.result (λ b. b ≡ whole scope t) (λ b. (v : Value) → has b v ≡ true → has_type scope v t ≡ true)
    (λ b e v h. whole_alone c.order_is_total.ensures.exact c.values_are_complete.ensures scope t u v (ap (λ x. has x v) (sym e) ∙ h)) c.unbounded.ensures
