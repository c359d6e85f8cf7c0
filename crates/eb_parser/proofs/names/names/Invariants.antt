use Rattle.std.proofs.Common.{length, ◌≡◌, ◌-◌}
use Rattle.eb_parser.specs.steps.Climbing.{names}
use Rattle.eb_parser.proofs.Equations.{names_with}
use Rattle.eb_parser.proofs.names.names.Given as goal

abbrev pub invariant-loop : goal.invariant-loop
invariant-loop l = names_with l.names (names (length l.tokens - l.counter) l.rest) ≡ names (length l.tokens) l.tokens
