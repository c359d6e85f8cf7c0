use Rattle.rules_base.proofs.UnaryLaws.{up_one_has, down_one_has}
use Rattle.rules_base.proofs.UpLaws.{up_two_has}
use Rattle.rules_base.proofs.DownLaws.{down_two_has}
use Rattle.rules_base.proofs.laws.rules_are_sound.Goals as goal

pub returns-clause-up_one : goal.returns-clause-up_one
returns-clause-up_one c =
    let laws = c.bodies_have_their_values.ensures in
    λ rule d x z h e. up_one_has (record { layers = laws.layers; pairs = laws.pairs; integers = laws.integers; meet = laws.meet; none = laws.none; single = laws.single; without = laws.without }) rule d x z h e

pub returns-clause-up_two : goal.returns-clause-up_two
returns-clause-up_two c =
    let laws = c.bodies_have_their_values.ensures in
    let order = c.order_is_total.ensures in
    let rows = c.rows_of_integers_are_sound.ensures in
    λ rule a b x y z r q h k e. up_two_has
    (record { layers = laws.layers; pairs = laws.pairs; integers = laws.integers; meet = laws.meet; none = laws.none; single = laws.single; without = laws.without })
    (record { reflexive = order.reflexive; exact = order.exact })
    (record { at_most = rows.at_most; up = rows.up; undefined = rows.undefined; down = rows.down; normal = rows.normal }) rule a b x y z r q h k e

pub returns-clause-down_one : goal.returns-clause-down_one
returns-clause-down_one c =
    let laws = c.bodies_have_their_values.ensures in
    λ rule w d x z h e k. down_one_has (record { layers = laws.layers; pairs = laws.pairs; integers = laws.integers; meet = laws.meet; none = laws.none; single = laws.single; without = laws.without }) rule w d x z h e k

pub returns-clause-down_two : goal.returns-clause-down_two
returns-clause-down_two c =
    let laws = c.bodies_have_their_values.ensures in
    let order = c.order_is_total.ensures in
    let rows = c.rows_of_integers_are_sound.ensures in
    λ rule s w a b x y z r q h k e j. down_two_has
    (record { layers = laws.layers; pairs = laws.pairs; integers = laws.integers; meet = laws.meet; none = laws.none; single = laws.single; without = laws.without })
    (record { reflexive = order.reflexive; exact = order.exact })
    (record { at_most = rows.at_most; up = rows.up; undefined = rows.undefined; down = rows.down; normal = rows.normal }) rule s w a b x y z r q h k e j
