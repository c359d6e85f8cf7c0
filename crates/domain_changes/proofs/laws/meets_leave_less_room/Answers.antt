use Rattle.occ_domains.specs.Domains.{meet}
use Rattle.domain_changes.proofs.DomainRoom.{domain_falls, changed_less, never_more}
use Rattle.domain_changes.proofs.laws.meets_leave_less_room.Goals as goal

pub returns-clause-less : goal.returns-clause-less
returns-clause-less c = λ a b h other. changed_less a (meet a b) (domain_falls a b h) other

pub returns-clause-most : goal.returns-clause-most
returns-clause-most c = λ a b h. never_more a (meet a b) (domain_falls a b h)
