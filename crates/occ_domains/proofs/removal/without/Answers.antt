use Rattle.std.proofs.Common.{◌≡◌, ◌∙◌, true, false, ap}
use Rattle.std.proofs.lemmas.Result.{IfOk-weaker}
use Rattle.eb_value.specs.declared.value.Value.{Value}
use Rattle.eb_value.specs.Comprehensions.{same}
use Rattle.occ_domains.specs.Bodies.{has, is_normal, without}
use Rattle.occ_domains.proofs.RemovalLaws.{without_has, without_normal}
use Rattle.occ_domains.proofs.removal.without.Goals as goal

pub returns-clause-normal : goal.returns-clause-normal
returns-clause-normal c normal =
    let b = c.args.body.now in
    let u = c.args.value.now in
    IfOk-weaker c.removed.result (λ x. x ≡ without b u) (λ x. is_normal x ≡ true)
    (λ x e. ap is_normal e ∙ without_normal c.order_is_total.ensures.transitive b u normal) c.removed.ensures

pub returns-clause-others : goal.returns-clause-others
returns-clause-others c =
    let b = c.args.body.now in
    let u = c.args.value.now in
    IfOk-weaker c.removed.result (λ x. x ≡ without b u) (λ x. (v : Value) → has b v ≡ true → same v u ≡ false → has x v ≡ true)
    (λ x e v h other. ap (λ y. has y v) e ∙ without_has c.order_is_total.ensures.exact c.order_is_total.ensures.reflexive b u v h other) c.removed.ensures
