use Rattle.std.proofs.Common.{length, ◌≡◌, ◌-◌, ◌≤◌, true}
use Rattle.eb_parser.specs.steps.Climbing.{pattern}
use Rattle.eb_parser.proofs.Equations.{marks_with}
use Rattle.eb_parser.proofs.names.pattern.Given as goal

abbrev pub invariant-loop : goal.invariant-loop
invariant-loop l = (l.depth ≤ l.counter)
    × (marks_with l.pattern (pattern (length l.tokens - l.counter) l.due l.depth l.rest) ≡ pattern (length l.tokens) true 0 l.tokens)
