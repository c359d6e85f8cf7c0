use Rattle.eb_value.specs.Canonical as canonical
use Rattle.library_tests.proofs.tests.truths.truth_of.Goals as goal

pub truth-requires-clause-bound : goal.truth-requires-clause-bound
truth-requires-clause-bound c = rw c.new-bound.ensures canonical.none
