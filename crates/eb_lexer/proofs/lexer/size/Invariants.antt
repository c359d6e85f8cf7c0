use Rattle.std.proofs.Common.{◌≡◌, take}
use Rattle.eb_lexer.specs.Tokens as spec
use Rattle.eb_lexer.proofs.lexer.size.Given as goal

abbrev pub invariant-loop-c : goal.invariant-loop-c
invariant-loop-c l = l.bytes ≡ spec.size (take l.c-index l.text)
