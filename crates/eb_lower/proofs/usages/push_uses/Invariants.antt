use Rattle.std.proofs.Common.{◌≡◌, ◌++◌, map, take}
use Rattle.eb_scoping.specs.FreeNames as uses
use Rattle.eb_declared.specs.Seen as held
use Rattle.eb_lower.specs.Usages as spec
use Rattle.eb_lower.specs.steps.Positions as seen
use Rattle.eb_lower.proofs.usages.push_uses.Given as goal

abbrev pub invariant-loop-used : goal.invariant-loop-used
invariant-loop-used l = map seen.usage l.out.items ≡ map seen.usage l.initial.out.items ++ map (spec.usage (held.position l.position)) (map uses.seen (take l.used-index l.found))
