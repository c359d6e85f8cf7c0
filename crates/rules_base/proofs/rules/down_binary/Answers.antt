use Rattle.std.proofs.Common.{◌≡◌, ◌∙◌, true, Some, sym, ap, subst}
use Rattle.std.proofs.lemmas.Result.{IfOk-weaker}
use Rattle.occ_domains.specs.Domains.{Outcome, has, is_normal}
use Rattle.rules_base.specs.Outcomes.{of_sides, is_ranged}
use Rattle.rules_base.specs.Rules.{down_two}
use Rattle.rules_base.proofs.DownLaws.{down_two_has}
use Rattle.rules_base.proofs.NormalLaws.{down_two_normal}
use Rattle.rules_base.proofs.rules.down_binary.Goals as goal

pub returns-clause-sound : goal.returns-clause-sound
returns-clause-sound c =
    let rule = c.args.rule in
    let s = c.args.side in
    let w = c.args.whole.now in
    let a = c.args.part.now in
    let b = c.args.other.now in
    let laws = c.bodies_have_their_values.ensures in
    let order = c.order_is_total.ensures in
    let rows = c.rows_of_integers_are_sound.ensures in
    IfOk-weaker c.parted.result (λ r. r ≡ down_two rule s w a b) (λ r. (x y z : Outcome) → is_ranged x ≡ true → is_ranged y ≡ true → has a x ≡ true → has b y ≡ true → of_sides rule s x y ≡ Some z → has w z ≡ true → has r x ≡ true)
    (λ r e x y z i j h k m o. subst (λ q. has q x ≡ true) (sym e) (down_two_has
    (record { layers = laws.layers; pairs = laws.pairs; integers = laws.integers; meet = laws.meet; none = laws.none; single = laws.single; without = laws.without })
    (record { reflexive = order.reflexive; exact = order.exact })
    (record { at_most = rows.at_most; up = rows.up; undefined = rows.undefined; down = rows.down; normal = rows.normal }) rule s w a b x y z i j h k m o)) c.parted.ensures

pub returns-clause-normal : goal.returns-clause-normal
returns-clause-normal c n =
    let rule = c.args.rule in
    let s = c.args.side in
    let w = c.args.whole.now in
    let a = c.args.part.now in
    let b = c.args.other.now in
    let laws = c.bodies_have_their_values.ensures in
    IfOk-weaker c.parted.result (λ r. r ≡ down_two rule s w a b) (λ r. is_normal r ≡ true)
    (λ r e. ap is_normal e ∙ down_two_normal
    (record { meet = laws.normal_meet; integers = laws.normal_integers; pairs = laws.normal_pairs; parts = laws.normal_parts; without = laws.normal_without }) rule s w a b n) c.parted.ensures
