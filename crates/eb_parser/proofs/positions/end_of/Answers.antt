use Rattle.std.proofs.Common.{◌≡◌, ◌+◌, ◌-◌, ◌<◌, ℕ, zero, suc, List, [], ◌∷◌, length, get_or, ap, arith}
use Rattle.eb_lexer.specs.declared.token.Token.{Token}
use Rattle.eb_parser.specs.Formulas.{end_of}
use Rattle.eb_parser.proofs.positions.end_of.Goals as goal

last_end : (ts : List Token) (i : ℕ) (t : Token) → i + 1 ≡ length ts → t ≡ get_or ts i t → t.end ≡ end_of ts
last_end [] i t h e = absurd (omega arith)
last_end (x ∷ []) zero t h e = ap (λ z. z.end) e
last_end (x ∷ []) (suc i) t h e = absurd (omega arith)
last_end (x ∷ y ∷ ts) zero t h e = absurd (omega arith)
last_end (x ∷ y ∷ ts) (suc i) t h e = last_end (y ∷ ts) i t (omega arith) e

pub returns-in-Some : goal.returns-in-Some
returns-in-Some c =
    let i = c.in-Some.ensures.item in
    let some : 0 < length c.args.tokens.now = i.3.0 in
    last_end c.args.tokens.now (length c.args.tokens.now - 1) c.in-Some.token.now (omega arith) i.1
