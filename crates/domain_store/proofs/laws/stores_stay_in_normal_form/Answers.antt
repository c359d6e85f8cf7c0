use Rattle.domain_store.proofs.NormalLaws.{first_normal, with_normal}
use Rattle.domain_store.proofs.laws.stores_stay_in_normal_form.Goals as goal

pub returns-clause-first : goal.returns-clause-first
returns-clause-first c =
    first_normal (record { first = c.domains_have_their_outcomes.ensures.normal_first; whole = c.domains_have_their_outcomes.ensures.normal_whole })

pub returns-clause-narrowed : goal.returns-clause-narrowed
returns-clause-narrowed c = with_normal
