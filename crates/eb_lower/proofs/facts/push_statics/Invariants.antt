use Rattle.std.proofs.Common.{◌≡◌, ◌++◌, take}
use Rattle.std.specs.List.{flat_map}
use Rattle.eb_lower.specs.Usages as spec
use Rattle.eb_lower.specs.steps.Facts as facts
use Rattle.eb_lower.proofs.facts.push_statics.Given as goal

abbrev pub invariant-loop-clause : goal.invariant-loop-clause
invariant-loop-clause l = facts.seen_heads l.heads.items ≡ facts.seen_heads l.initial.heads.items ++ flat_map (λ c. facts.heads_at l.place (spec.clause_statics c)) (take l.clause-index l.clauses)
