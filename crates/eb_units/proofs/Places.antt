-- Places of tokens.
use Rattle.std.proofs.Common.{◌≡◌, ◌∙◌, ℕ, zero, suc, ◌+◌, List, [], ◌∷◌, drop, refl, ap, arith}
use Rattle.eb_lexer.specs.declared.token.Token.{Token}
use Rattle.eb_units.specs.steps.Descending.{after_first}

drop_suc : (ts : List Token) (i : ℕ) → drop (suc i) ts ≡ after_first (drop i ts)
drop_suc [] zero = refl
drop_suc [] (suc i) = refl
drop_suc (t ∷ ts) zero = refl
drop_suc (t ∷ ts) (suc i) = drop_suc ts i

-- what lies behind the token at a place
pub drop_next : (ts : List Token) (i : ℕ) → drop (i + 1) ts ≡ after_first (drop i ts)
drop_next ts i = let n : i + 1 ≡ suc i = omega arith in ap (λ z. drop z ts) n ∙ drop_suc ts i
