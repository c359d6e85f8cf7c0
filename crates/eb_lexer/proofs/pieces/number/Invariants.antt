use Rattle.std.proofs.Common.{◌≡◌, ◌≤◌, drop}
use Rattle.eb_lexer.specs.Tokens as spec
use Rattle.eb_lexer.proofs.pieces.number.Given as goal

abbrev pub invariant-loop-d : goal.invariant-loop-d
invariant-loop-d l = record {
  within : l.value ≤ 4611686018427387904;
  read : spec.number_on 0 l.digits ≡ spec.number_on l.value (drop l.d-index l.digits);
}
