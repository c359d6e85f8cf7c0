use Rattle.std.proofs.Common.{◌≡◌, ◌≤◌, length, drop}
use Rattle.domain_changes.specs.steps.SameDomains as spec
use Rattle.domain_changes.proofs.changes.same_lists.Given as goal

abbrev pub invariant-loop-i : goal.invariant-loop-i
invariant-loop-i l = (l.i ≤ length l.ys) × (spec.same_lists l.xs l.ys ≡ spec.same_lists (drop l.i l.xs) (drop l.i l.ys))
