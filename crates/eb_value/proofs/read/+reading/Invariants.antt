use Rattle.std.proofs.Common.{◌≡◌, ◌+◌, ◌*◌, drop, []}
use Rattle.eb_value.specs.steps.Reading as spec
use Rattle.eb_value.proofs.read.+reading.Given as goal

abbrev pub decreases-value_at : goal.decreases-value_at
decreases-value_at l = 2 * goal.size-value_at l

abbrev pub decreases-opened_at : goal.decreases-opened_at
decreases-opened_at l = 2 * goal.size-opened_at l + 1

abbrev pub decreases-closed_at : goal.decreases-closed_at
decreases-closed_at l = 2 * goal.size-closed_at l + 1

abbrev pub decreases-members_at : goal.decreases-members_at
decreases-members_at l = 2 * goal.size-members_at l + 1

abbrev pub invariant-members_at-members : goal.invariant-members_at-members
invariant-members_at-members l = spec.members_at (spec.value_at l.names l.sizes l.ty) (drop l._byte-index l.text) l.members l.rest ≡ spec.members_at (spec.value_at l.names l.sizes l.ty) l.text [] l.text
