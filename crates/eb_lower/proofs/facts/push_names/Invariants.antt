use Rattle.std.proofs.Common.{◌≡◌, ◌++◌, take}
use Rattle.eb_scoping.specs.FreeNames.{names_of}
use Rattle.eb_lower.specs.steps.Facts as facts
use Rattle.eb_lower.proofs.facts.push_names.Given as goal

abbrev pub invariant-loop-name : goal.invariant-loop-name
invariant-loop-name l = facts.seen_heads l.heads.items ≡ facts.seen_heads l.initial.heads.items ++ facts.heads_at l.place (names_of (take l.name-index l.names))
