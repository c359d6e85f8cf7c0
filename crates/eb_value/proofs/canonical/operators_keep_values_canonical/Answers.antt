use Rattle.eb_value.proofs.CanonicalLaws as laws
use Rattle.eb_value.proofs.canonical.operators_keep_values_canonical.Goals as goal

pub returns-clause-set_of : goal.returns-clause-set_of
returns-clause-set_of c = laws.set_of

pub returns-clause-union : goal.returns-clause-union
returns-clause-union c = laws.union

pub returns-clause-meet : goal.returns-clause-meet
returns-clause-meet c = laws.meet

pub returns-clause-minus : goal.returns-clause-minus
returns-clause-minus c = laws.minus

pub returns-clause-cross : goal.returns-clause-cross
returns-clause-cross c = laws.cross

pub returns-clause-domain : goal.returns-clause-domain
returns-clause-domain c = laws.domain

pub returns-clause-range : goal.returns-clause-range
returns-clause-range c = laws.range

pub returns-clause-inverse : goal.returns-clause-inverse
returns-clause-inverse c = laws.inverse

pub returns-clause-dom_keep : goal.returns-clause-dom_keep
returns-clause-dom_keep c = laws.dom_keep

pub returns-clause-dom_drop : goal.returns-clause-dom_drop
returns-clause-dom_drop c = laws.dom_drop

pub returns-clause-ran_keep : goal.returns-clause-ran_keep
returns-clause-ran_keep c = laws.ran_keep

pub returns-clause-ran_drop : goal.returns-clause-ran_drop
returns-clause-ran_drop c = laws.ran_drop

pub returns-clause-image : goal.returns-clause-image
returns-clause-image c = laws.image

pub returns-clause-overlay : goal.returns-clause-overlay
returns-clause-overlay c = laws.overlay

pub returns-clause-compose : goal.returns-clause-compose
returns-clause-compose c = laws.compose

pub returns-clause-direct : goal.returns-clause-direct
returns-clause-direct c = laws.direct

pub returns-clause-parallel : goal.returns-clause-parallel
returns-clause-parallel c = laws.parallel

pub returns-clause-apply : goal.returns-clause-apply
returns-clause-apply c = laws.apply

pub returns-clause-union_of : goal.returns-clause-union_of
returns-clause-union_of c = laws.union_of

pub returns-clause-meet_of : goal.returns-clause-meet_of
returns-clause-meet_of c = laws.meet_of

pub returns-clause-union_all : goal.returns-clause-union_all
returns-clause-union_all c = laws.union_all

pub returns-clause-meet_all : goal.returns-clause-meet_all
returns-clause-meet_all c = laws.meet_all

pub returns-clause-integers : goal.returns-clause-integers
returns-clause-integers c = laws.interval
