use Rattle.eb_value.specs.Canonical as canonical
use Rattle.eb_meaning.specs.Slots as slots
use Rattle.meaning_times.proofs.result.Goals as goal

pub holds-requires-clause-refs : goal.holds-requires-clause-refs
holds-requires-clause-refs c = rw c.new-refs.ensures slots.none

pub holds-requires-clause-bound : goal.holds-requires-clause-bound
holds-requires-clause-bound c = rw c.new-bound.ensures canonical.none

pub value-requires-clause-refs : goal.value-requires-clause-refs
value-requires-clause-refs c = rw c.new-refs.ensures slots.none

pub value-requires-clause-bound : goal.value-requires-clause-bound
value-requires-clause-bound c = rw c.new-bound.ensures canonical.none
