use Rattle.eb_value.specs.Canonical as canonical
use Rattle.eb_meaning.proofs.problems.fact_at.Goals as goal

pub new-requires-clause-bound : goal.new-requires-clause-bound
new-requires-clause-bound c = canonical.none
