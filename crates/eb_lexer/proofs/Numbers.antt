-- The numbers that digits write.
use Rattle.std.proofs.Common.{◌≡◌, ℕ, ◌+◌, ◌*◌, ◌-◌, ◌≤◌, ◌<◌, List, [], ◌∷◌, arith}
use Rattle.std.specs.Prelude.{Some, None, pos}
use Rattle.eb_lexer.specs.Tokens.{number_on}
use Rattle.eb_lexer.specs.steps.Lexing.{number_of}

-- more digits make no smaller number
pub number_on-grows : (n : ℕ) (ds : List ℕ) → n ≤ number_on n ds
number_on-grows n [] = omega arith
number_on-grows n (d ∷ ds) = omega (arith, number_on-grows (10 * n + (d - 48)) ds)

pub number_of-large : (ds : List ℕ) → 4611686018427387904 < number_on 0 ds → number_of ds ≡ None
unfolding number_of
number_of-large ds h = grind arith

pub number_of-small : (ds : List ℕ) → number_on 0 ds ≤ 4611686018427387904 → number_of ds ≡ Some (pos (number_on 0 ds))
unfolding number_of
number_of-small ds h = grind arith
