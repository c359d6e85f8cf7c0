use Rattle.std.proofs.Common.{◌≡◌, ◌≤◌, length, take}
use Rattle.std.specs.Prelude.{min}
use Rattle.eb_lowering.proofs.around.Around.leave.Given as goal

abbrev pub invariant-loop-self : goal.invariant-loop-self
invariant-loop-self l = (l.self.bound ≡ take (length l.self.bound) l.initial.self.bound) × (min l.count (length l.initial.self.bound) ≤ length l.self.bound)

abbrev pub decreases-loop-self : goal.decreases-loop-self
decreases-loop-self l = length l.self.bound
