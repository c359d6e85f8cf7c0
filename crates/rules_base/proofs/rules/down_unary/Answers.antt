use Rattle.std.proofs.Common.{◌≡◌, ◌∙◌, true, Some, sym, ap, subst}
use Rattle.std.proofs.lemmas.Result.{IfOk-weaker}
use Rattle.occ_domains.specs.Domains.{Outcome, has, is_normal}
use Rattle.rules_base.specs.Outcomes.{of_one}
use Rattle.rules_base.specs.Rules.{down_one}
use Rattle.rules_base.proofs.UnaryLaws.{down_one_has}
use Rattle.rules_base.proofs.NormalLaws.{down_one_normal}
use Rattle.rules_base.proofs.rules.down_unary.Goals as goal

pub returns-clause-sound : goal.returns-clause-sound
returns-clause-sound c =
    let rule = c.args.rule in
    let w = c.args.whole.now in
    let d = c.args.part.now in
    let laws = c.bodies_have_their_values.ensures in
    IfOk-weaker c.fallen.result (λ r. r ≡ down_one rule w d) (λ r. (x z : Outcome) → has d x ≡ true → of_one rule x ≡ Some z → has w z ≡ true → has r x ≡ true)
    (λ r e x z h k m. subst (λ q. has q x ≡ true) (sym e) (down_one_has (record { layers = laws.layers; pairs = laws.pairs; integers = laws.integers; meet = laws.meet; none = laws.none; single = laws.single; without = laws.without }) rule w d x z h k m)) c.fallen.ensures

pub returns-clause-normal : goal.returns-clause-normal
returns-clause-normal c n =
    let rule = c.args.rule in
    let w = c.args.whole.now in
    let d = c.args.part.now in
    let laws = c.bodies_have_their_values.ensures in
    IfOk-weaker c.fallen.result (λ r. r ≡ down_one rule w d) (λ r. is_normal r ≡ true)
    (λ r e. ap is_normal e ∙ down_one_normal (record { meet = laws.normal_meet; integers = laws.normal_integers; pairs = laws.normal_pairs; parts = laws.normal_parts; without = laws.normal_without }) rule w d n) c.fallen.ensures
