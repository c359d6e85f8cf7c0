use Rattle.std.proofs.Common.{◌≡◌, ◌∙◌, true, Some, sym, ap, subst}
use Rattle.std.proofs.lemmas.Result.{IfOk-weaker}
use Rattle.occ_domains.specs.Domains.{Outcome, has, is_normal}
use Rattle.rules_base.specs.Outcomes.{of_one}
use Rattle.rules_base.specs.Rules.{up_one}
use Rattle.rules_base.proofs.UnaryLaws.{up_one_has}
use Rattle.rules_base.proofs.NormalLaws.{up_one_normal}
use Rattle.rules_base.proofs.rules.up_unary.Goals as goal

pub returns-clause-sound : goal.returns-clause-sound
returns-clause-sound c =
    let rule = c.args.rule in
    let d = c.args.part.now in
    let laws = c.bodies_have_their_values.ensures in
    IfOk-weaker c.risen.result (λ r. r ≡ up_one rule d) (λ r. (x z : Outcome) → has d x ≡ true → of_one rule x ≡ Some z → has r z ≡ true)
    (λ r e x z h k. subst (λ q. has q z ≡ true) (sym e) (up_one_has (record { layers = laws.layers; pairs = laws.pairs; integers = laws.integers; meet = laws.meet; none = laws.none; single = laws.single; without = laws.without }) rule d x z h k)) c.risen.ensures

pub returns-clause-normal : goal.returns-clause-normal
returns-clause-normal c n =
    let rule = c.args.rule in
    let d = c.args.part.now in
    let laws = c.bodies_have_their_values.ensures in
    IfOk-weaker c.risen.result (λ r. r ≡ up_one rule d) (λ r. is_normal r ≡ true)
    (λ r e. ap is_normal e ∙ up_one_normal (record { meet = laws.normal_meet; integers = laws.normal_integers; pairs = laws.normal_pairs; parts = laws.normal_parts; without = laws.normal_without }) rule d n) c.risen.ensures
