-- The words among the tokens of a text are plain names.
use Rattle.std.proofs.Common.{◌≡◌, ℕ, ◌+◌, true, List, [], ◌∷◌, ◌++◌, sym, subst}
use Rattle.std.specs.Prelude.{⊤}
use Rattle.std.specs.Str.{chars}
use Rattle.eb_lexer.specs.declared.token.TokenKind.{TokenKind}
use Rattle.eb_lexer.specs.declared.token.TokenKind.TheVariants as kind
use Rattle.eb_lexer.specs.declared.token.Token.{Token}
use Rattle.eb_lexer.specs.Tokens.{Spells, Piece, blank, line, block, token, written, Begins, size, tokens_at, IsTokens}
use Rattle.carrier_names.specs.Plain.{is_plain_name}
use Rattle.carrier_names.proofs.PlainBytes.{identifier_plain}

-- the token's name is plain where it is a word
abbrev pub IsPlainWord : TokenKind → Type 0
IsPlainWord k = (x : List ℕ) → k ≡ kind.Word x → is_plain_name x ≡ true

-- and of all tokens
abbrev pub HavePlainWords : List Token → Type 0
HavePlainWords [] = ⊤
HavePlainWords (t ∷ ts) = IsPlainWord t.kind × HavePlainWords ts

spelled_plain : (k : TokenKind) (w : List ℕ) → Spells k w → IsPlainWord k
spelled_plain k w h x e =
    let g : Spells (kind.Word x) w = subst (λ (z : TokenKind). Spells z w) e h in
    subst (λ (z : List ℕ). is_plain_name z ≡ true) (sym g.2) (identifier_plain w g.0)

pieces_plain : (ps : List Piece) (text rest : List ℕ) (at : ℕ) → Begins ps text rest → HavePlainWords (tokens_at at ps)
pieces_plain [] text rest at h = tt
pieces_plain (blank c ∷ ps) text rest at h = pieces_plain ps h.0 rest (at + size (written (blank c))) h.2
pieces_plain (line body ∷ ps) text rest at h = pieces_plain ps h.0 rest (at + size (written (line body))) h.2
pieces_plain (block body ∷ ps) text rest at h = pieces_plain ps h.0 rest (at + size (written (block body))) h.2
pieces_plain (token k w ∷ ps) text rest at h = (spelled_plain k w (h.1).fits.spelled, pieces_plain ps h.0 rest (at + size w) h.2)

-- the tokens of a text
pub text_plain : (ts : List Token) (text : List ℕ) → IsTokens ts text → HavePlainWords ts
text_plain ts text h = subst HavePlainWords (sym h.among) (pieces_plain h.pieces (chars text) [] 0 h.whole)

-- behind some tokens
pub behind_plain : (front rest : List Token) → HavePlainWords (front ++ rest) → HavePlainWords rest
behind_plain [] rest h = h
behind_plain (t ∷ ts) rest h = behind_plain ts rest h.1
