use Rattle.occ_domains.specs.declared.domain.Domain.TheVariants as domain
use Rattle.domain_counts.proofs.MeetCounts.{meet_fewer_in, meet_setless}
use Rattle.domain_counts.proofs.FilledCounts.{normal_some, normal_several}
use Rattle.domain_counts.proofs.GivenParts.{given_shared, given_setless}
use Rattle.domain_counts.proofs.WholeCounts.{first_counted}
use Rattle.domain_counts.proofs.laws.domains_have_counts.Goals as goal

pub returns-clause-meet : goal.returns-clause-meet
returns-clause-meet c = λ a b n. meet_fewer_in a b

pub returns-clause-parts : goal.returns-clause-parts
returns-clause-parts c = λ d t two n h. given_shared d t two h

pub returns-clause-filled : goal.returns-clause-filled
returns-clause-filled c = λ b n e. normal_some b n e

pub returns-clause-several : goal.returns-clause-several
returns-clause-several c = λ b n e s h. normal_several b n e s h

pub returns-clause-setless_meet : goal.returns-clause-setless_meet
returns-clause-setless_meet c = λ a b h. meet_setless a h b

pub returns-clause-setless_parts : goal.returns-clause-setless_parts
returns-clause-setless_parts c = λ b u t two s h. given_setless (domain.Values b u) t two s h

pub returns-clause-first : goal.returns-clause-first
returns-clause-first c = λ scope ty u. first_counted scope ty u
