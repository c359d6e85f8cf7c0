use Rattle.std.proofs.Common.{◌≡◌, ◌≤◌, length, take}
use Rattle.eb_lowering.specs.Lowering as spec
use Rattle.eb_lowering.proofs.around.Around.place_of.Given as goal

abbrev pub invariant-loop-rest : goal.invariant-loop-rest
invariant-loop-rest l = (spec.place_in l.self.bound l.number ≡ spec.place_in (take l.rest l.self.bound) l.number) × (l.rest ≤ length l.self.bound)

abbrev pub decreases-loop-rest : goal.decreases-loop-rest
decreases-loop-rest l = l.rest
