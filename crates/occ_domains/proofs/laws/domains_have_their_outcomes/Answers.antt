use Rattle.std.proofs.Common.{◌≡◌, Some, None, true, false}
use Rattle.eb_value.specs.declared.value.Value.{Value}
use Rattle.occ_domains.specs.declared.domain.Domain.{Domain}
use Rattle.occ_domains.specs.declared.domain.Domain.TheVariants as domain
use Rattle.occ_domains.specs.Domains.{Outcome, truth, slot, has, single}
use Rattle.occ_domains.proofs.AloneLaws.{only_value}
use Rattle.occ_domains.proofs.MeetLaws.{Exact}
use Rattle.occ_domains.proofs.DomainLaws.{meet_has, empty_has_nothing, meet_normal}
use Rattle.occ_domains.proofs.GivenParts.{given_parts, first_has, second_has, given_normal}
use Rattle.occ_domains.proofs.WholeLaws.{first_normal, whole_normal}
use Rattle.occ_domains.proofs.laws.domains_have_their_outcomes.Goals as goal

one : Exact → (d : Domain) (v : Value) (o : Outcome) → single d ≡ Some v → has d o ≡ true → o ≡ slot (Some v)
one exact (domain.Truths t) v o h k = let e : None ≡ Some v = h in cc
one exact (domain.Values b true) v o h k = let e : None ≡ Some v = h in cc
one exact (domain.Values b false) v (truth p) h k = let e : false ≡ true = k in cc
one exact (domain.Values b false) v (slot None) h k = let e : false ≡ true = k in cc
one exact (domain.Values b false) v (slot (Some w)) h k = let e : w ≡ v = only_value exact b v h w k in cc

pub returns-clause-meet : goal.returns-clause-meet
returns-clause-meet c = λ a b o. meet_has c.order_is_total.ensures.exact a b o

pub returns-clause-none : goal.returns-clause-none
returns-clause-none c = λ d o h. empty_has_nothing d h o

pub returns-clause-single : goal.returns-clause-single
returns-clause-single c = λ d v o h k. one c.order_is_total.ensures.exact d v o h k

pub returns-clause-first : goal.returns-clause-first
returns-clause-first c = λ d t two h o. first_has c.order_is_total.ensures.exact d t two h o

pub returns-clause-second : goal.returns-clause-second
returns-clause-second c = λ d t two h o. second_has c.order_is_total.ensures.exact d t two h o

pub returns-clause-filled : goal.returns-clause-filled
returns-clause-filled c = λ d t two h. let w = given_parts d t two h in (w.first_filled, w.second_filled)

pub returns-clause-normal_meet : goal.returns-clause-normal_meet
returns-clause-normal_meet c = λ a b h. meet_normal c.order_is_total.ensures.transitive a b h

pub returns-clause-normal_parts : goal.returns-clause-normal_parts
returns-clause-normal_parts c = λ d t two n h. given_normal c.order_is_total.ensures.transitive d t two n h

pub returns-clause-normal_first : goal.returns-clause-normal_first
returns-clause-normal_first c = λ scope ty. first_normal c.values_are_ascending.ensures scope ty

pub returns-clause-normal_whole : goal.returns-clause-normal_whole
returns-clause-normal_whole c = λ scope ty. whole_normal c.values_are_ascending.ensures scope ty
