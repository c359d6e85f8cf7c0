use Rattle.std.proofs.Common.{◌≡◌, ◌≤◌, ◌+◌, length}
use Rattle.std.specs.Option.{option_map}
use Rattle.eb_lexer.specs.steps.Lexing as lexing
use Rattle.eb_lexer.proofs.pieces.close_at.Given as goal

abbrev pub invariant-loop-rest : goal.invariant-loop-rest
invariant-loop-rest l = record {
  within : l.before + length l.rest ≤ length l.fn.text;
  so_far : lexing.close_at l.fn.text ≡ option_map (λ n. n + l.before) (lexing.close_at l.rest);
}

abbrev pub decreases-loop-rest : goal.decreases-loop-rest
decreases-loop-rest l = length l.rest
