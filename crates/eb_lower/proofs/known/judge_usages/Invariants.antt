use Rattle.std.proofs.Common.{take}
use Rattle.std.specs.List.{flat_map, AllByRecursion}
use Rattle.eb_declared.specs.Seen as held
use Rattle.eb_lower.specs.Usages.{IsKnown, part_usages}
use Rattle.eb_lower.specs.steps.Known.{ReachIs}
use Rattle.eb_lower.proofs.known.judge_usages.Given as goal

abbrev pub invariant-loop-part : goal.invariant-loop-part
invariant-loop-part l = record { reach : ReachIs l.units l.reach; known : AllByRecursion (IsKnown l.units l.marks) (flat_map (λ p. part_usages (held.part p)) (take l.part-index l.found)) }
