use Rattle.std.proofs.Common.{ap}
use Rattle.eb_meaning.proofs.ReferenceLaws.{alike}
use Rattle.eb_meaning.proofs.laws.terms_look_at_their_references_alone.Goals as goal

pub returns-clause-value : goal.returns-clause-value
returns-clause-value c = λ scope t refs others bound agree. ap (λ s. s.value) (alike scope refs others t bound (record { each = agree }))

pub returns-clause-truth : goal.returns-clause-truth
returns-clause-truth c = λ scope t refs others bound agree. ap (λ s. s.truth) (alike scope refs others t bound (record { each = agree }))

pub returns-clause-members : goal.returns-clause-members
returns-clause-members c = λ scope t refs others bound v agree. ap (λ s. s.has v) (alike scope refs others t bound (record { each = agree }))
