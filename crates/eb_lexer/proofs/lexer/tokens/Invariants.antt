use Rattle.std.proofs.Common.{length}
use Rattle.std.specs.Str.{chars, IsUtf8}
use Rattle.eb_lexer.proofs.TextLaws.{ReadTo}
use Rattle.eb_lexer.proofs.lexer.tokens.Given as goal

abbrev pub invariant-loop-tokens : goal.invariant-loop-tokens
invariant-loop-tokens l = record {
  utf8 : IsUtf8 l.fn.text;
  so_far : ReadTo l.tokens l.at (chars l.fn.text) l.rest;
}

abbrev pub decreases-loop-tokens : goal.decreases-loop-tokens
decreases-loop-tokens l = length l.rest
