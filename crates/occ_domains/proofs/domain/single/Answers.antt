use Rattle.std.proofs.Common.{◌≡◌, ◌∙◌, ◌↔◌, true, Some, sym}
use Rattle.std.proofs.lemmas.Result.{IfOk-weaker}
use Rattle.eb_value.specs.declared.value.Value.{Value}
use Rattle.occ_domains.specs.Domains.{Outcome, slot, has, single}
use Rattle.occ_domains.proofs.DomainLaws.{one_value}
use Rattle.occ_domains.proofs.domain.single.Goals as goal

pub returns-clause-one : goal.returns-clause-one
returns-clause-one c normal =
    let d = c.args.d.now in
    IfOk-weaker c.only_value.result (λ s. s ≡ single d) (λ s. (v : Value) → (s ≡ Some v) ↔ ((o : Outcome) → (has d o ≡ true) ↔ (o ≡ slot (Some v))))
    (λ s e v.
    let one = one_value c.order_is_total.ensures.exact c.order_is_total.ensures.reflexive d normal v in
    (λ h. one.0 (sym e ∙ h), λ only. e ∙ one.1 only)) c.only_value.ensures
