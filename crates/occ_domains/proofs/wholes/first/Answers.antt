use Rattle.std.proofs.Common.{◌≡◌, ◌∙◌, true, ap, sym}
use Rattle.std.specs.List.{Contains}
use Rattle.std.proofs.lemmas.Result.{IfOk-weaker}
use Rattle.eb_value.specs.declared.value.Value.{Value}
use Rattle.eb_value.specs.Scopes.{vals}
use Rattle.occ_domains.specs.Bodies.{has, is_normal}
use Rattle.occ_domains.specs.Wholes.{first}
use Rattle.occ_domains.proofs.WholeLaws.{first_each, first_alone, first_normal}
use Rattle.occ_domains.proofs.wholes.first.Goals as goal

pub returns-clause-normal : goal.returns-clause-normal
returns-clause-normal c =
    let t = c.args.ty.now in
    let scope = c.args.scope.now in
    IfOk-weaker c.within.result (λ b. b ≡ first scope t) (λ b. is_normal b ≡ true)
    (λ b e. ap is_normal e ∙ first_normal c.values_are_ascending.ensures scope t) c.within.ensures

pub returns-clause-each : goal.returns-clause-each
returns-clause-each c low high =
    let t = c.args.ty.now in
    let scope = c.args.scope.now in
    IfOk-weaker c.within.result (λ b. b ≡ first scope t) (λ b. (v : Value) → Contains (vals scope t) v → has b v ≡ true)
    (λ b e v m.
    let k = (c.values_are_complete.ensures scope low high t v).0 m in
    ap (λ x. has x v) e ∙ first_each c.order_is_total.ensures.reflexive c.values_are_complete.ensures scope t v k.0 k.1) c.within.ensures

pub returns-clause-alone : goal.returns-clause-alone
returns-clause-alone c low high u =
    let t = c.args.ty.now in
    let scope = c.args.scope.now in
    IfOk-weaker c.within.result (λ b. b ≡ first scope t) (λ b. (v : Value) → has b v ≡ true → Contains (vals scope t) v)
    (λ b e v h. (c.values_are_complete.ensures scope low high t v).1 (first_alone c.order_is_total.ensures.exact c.values_are_complete.ensures scope low high t u v (ap (λ x. has x v) (sym e) ∙ h))) c.within.ensures
