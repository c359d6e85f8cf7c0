use Rattle.std.proofs.Common.{◌+◌, ◌*◌}
use Rattle.occurrences.proofs.binders.+standing.Given as goal

abbrev pub decreases-binder_types : goal.decreases-binder_types
decreases-binder_types l = 2 * l.k

abbrev pub decreases-types_below : goal.decreases-types_below
decreases-types_below l = 2 * l.number + 1
