use Rattle.occ_domains.proofs.BodyLaws.{has_out, pairs_have, integers_have, empty_has}
use Rattle.occ_domains.proofs.MeetLaws.{meet_has}
use Rattle.occ_domains.proofs.NormalLaws.{meet_normal, integers_normal, pairs_normal, normal_parts}
use Rattle.occ_domains.proofs.RemovalLaws.{without_has, without_normal}
use Rattle.occ_domains.proofs.ExactLaws.{only_has}
use Rattle.occ_domains.proofs.WholeLaws.{whole_each, first_each}
use Rattle.occ_domains.proofs.AloneLaws.{only_value}
use Rattle.occ_domains.proofs.laws.bodies_have_their_values.Goals as goal

pub returns-clause-layers : goal.returns-clause-layers
returns-clause-layers c = λ b v. has_out b v

pub returns-clause-pairs : goal.returns-clause-pairs
returns-clause-pairs c = λ a b v. pairs_have a b v

pub returns-clause-integers : goal.returns-clause-integers
returns-clause-integers c = λ d v. integers_have d v

pub returns-clause-meet : goal.returns-clause-meet
returns-clause-meet c = λ a b v. meet_has c.order_is_total.ensures.exact a b v

pub returns-clause-none : goal.returns-clause-none
returns-clause-none c = λ b v h. empty_has b v h

pub returns-clause-single : goal.returns-clause-single
returns-clause-single c = λ b v w h k. only_value c.order_is_total.ensures.exact b v h w k

pub returns-clause-normal_meet : goal.returns-clause-normal_meet
returns-clause-normal_meet c = λ a b n. meet_normal c.order_is_total.ensures.transitive a n b

pub returns-clause-normal_integers : goal.returns-clause-normal_integers
returns-clause-normal_integers c = λ d. integers_normal d

pub returns-clause-normal_pairs : goal.returns-clause-normal_pairs
returns-clause-normal_pairs c = λ a b n m. pairs_normal a b n m

pub returns-clause-normal_parts : goal.returns-clause-normal_parts
returns-clause-normal_parts c = λ b x y n e. normal_parts b x y n e

pub returns-clause-without : goal.returns-clause-without
returns-clause-without c = λ b v w h e. without_has c.order_is_total.ensures.exact c.order_is_total.ensures.reflexive b w v h e

pub returns-clause-normal_without : goal.returns-clause-normal_without
returns-clause-normal_without c = λ b v n. without_normal c.order_is_total.ensures.transitive b v n

pub returns-clause-only : goal.returns-clause-only
returns-clause-only c = λ s. only_has c.order_is_total.ensures.reflexive s

pub returns-clause-whole : goal.returns-clause-whole
returns-clause-whole c = λ scope ty v h. whole_each c.order_is_total.ensures.reflexive c.values_are_complete.ensures scope ty v h

pub returns-clause-first : goal.returns-clause-first
returns-clause-first c = λ scope low high ty v m.
    let k = (c.values_are_complete.ensures scope low high ty v).0 m in
    first_each c.order_is_total.ensures.reflexive c.values_are_complete.ensures scope ty v k.0 k.1
