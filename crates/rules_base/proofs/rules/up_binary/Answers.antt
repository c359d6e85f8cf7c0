use Rattle.std.proofs.Common.{◌≡◌, ◌∙◌, true, Some, sym, ap, subst}
use Rattle.std.proofs.lemmas.Result.{IfOk-weaker}
use Rattle.occ_domains.specs.Domains.{Outcome, has, is_normal}
use Rattle.rules_base.specs.Outcomes.{of_two, is_ranged}
use Rattle.rules_base.specs.Rules.{up_two}
use Rattle.rules_base.proofs.UpLaws.{up_two_has}
use Rattle.rules_base.proofs.NormalLaws.{up_two_normal}
use Rattle.rules_base.proofs.rules.up_binary.Goals as goal

pub returns-clause-sound : goal.returns-clause-sound
returns-clause-sound c =
    let rule = c.args.rule in
    let a = c.args.left.now in
    let b = c.args.right.now in
    let laws = c.bodies_have_their_values.ensures in
    let order = c.order_is_total.ensures in
    let rows = c.rows_of_integers_are_sound.ensures in
    IfOk-weaker c.joined.result (λ r. r ≡ up_two rule a b) (λ r. (x y z : Outcome) → is_ranged x ≡ true → is_ranged y ≡ true → has a x ≡ true → has b y ≡ true → of_two rule x y ≡ Some z → has r z ≡ true)
    (λ r e x y z i j h k m. subst (λ q. has q z ≡ true) (sym e) (up_two_has
    (record { layers = laws.layers; pairs = laws.pairs; integers = laws.integers; meet = laws.meet; none = laws.none; single = laws.single; without = laws.without })
    (record { reflexive = order.reflexive; exact = order.exact })
    (record { at_most = rows.at_most; up = rows.up; undefined = rows.undefined; down = rows.down; normal = rows.normal }) rule a b x y z i j h k m)) c.joined.ensures

pub returns-clause-normal : goal.returns-clause-normal
returns-clause-normal c n m =
    let rule = c.args.rule in
    let a = c.args.left.now in
    let b = c.args.right.now in
    let laws = c.bodies_have_their_values.ensures in
    let rows = c.rows_of_integers_are_sound.ensures in
    IfOk-weaker c.joined.result (λ r. r ≡ up_two rule a b) (λ r. is_normal r ≡ true)
    (λ r e. ap is_normal e ∙ up_two_normal
    (record { meet = laws.normal_meet; integers = laws.normal_integers; pairs = laws.normal_pairs; parts = laws.normal_parts; without = laws.normal_without })
    (record { at_most = rows.at_most; up = rows.up; undefined = rows.undefined; down = rows.down; normal = rows.normal }) rule a b n m) c.joined.ensures
