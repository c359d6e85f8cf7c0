use Rattle.std.proofs.Common.{List, Bool, map, take}
use Rattle.std.specs.List.{AllByRecursion}
use Rattle.eb_lower.specs.Usages.{IsKnown}
use Rattle.eb_lower.specs.steps.Positions as seen
use Rattle.eb_lower.specs.steps.Known.{Text, ReachIs}
use Rattle.eb_lower.proofs.known.judge_part.Given as goal

abbrev pub invariant-loop-usage : goal.invariant-loop-usage
invariant-loop-usage l = record { reach : ReachIs l.units l.reach; known : (marks : List Bool) → Text l.units marks l.facts → AllByRecursion (IsKnown l.units marks) (map seen.usage (take l.usage-index l.usages)) }
