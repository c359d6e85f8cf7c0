-- The token that a whole text writes, as a function: a means of proof.
use Rattle.std.proofs.Common.{ℕ, Bool, ◌&&◌, ◌||◌, ◌==◌, nat_le, List, [], ◌∷◌, length, drop}
use Rattle.std.specs.Prelude.{take_while, Option, Some, None, pos, if◌then◌else◌}
use Rattle.std.specs.Option.{is_some, option_map}
use Rattle.std.specs.List.{list_all}
use Rattle.std.specs.Str.{encode_utf8_all}
use Rattle.eb_signs.specs.declared.sign.Sign.{Sign}
use Rattle.eb_lexer.specs.declared.token.TokenKind.{TokenKind}
use Rattle.eb_lexer.specs.declared.token.TokenKind.TheVariants as kind
use Rattle.eb_signs.specs.Signs.{sign_of}
use Rattle.eb_lexer.specs.Tokens.{starts_word, continues_word, continues_label, is_digit, is_number, number_on}

-- digits are a token up to 2 ^ 62
abbrev pub number_token : List ℕ → Option TokenKind
number_token ds = if is_number ds && nat_le (number_on 0 ds) 4611686018427387904 then Some (kind.Number (pos (number_on 0 ds))) else None

-- what stands behind an `@`
abbrev pub label_token : List ℕ → Option TokenKind
label_token [] = None
label_token (c ∷ cs) = if list_all continues_label (c ∷ cs) then Some (kind.Label (encode_utf8_all (c ∷ cs))) else None

-- an identifier's characters, what is left behind them, and the sign that they spell: a reserved word is a sign and is never primed
abbrev pub word_token : List ℕ → List ℕ → Option Sign → Option TokenKind
word_token w [] (Some s) = Some (kind.Sign s)
word_token w [] None = Some (kind.Word (encode_utf8_all w))
word_token w (q ∷ []) (Some s) = None
word_token w (q ∷ []) None = if q == 39 then Some (kind.Primed (encode_utf8_all w)) else None
word_token w (q ∷ r ∷ rs) (Some s) = None
word_token w (q ∷ r ∷ rs) None = None

-- the token that a whole text writes, which its first character tells apart
abbrev pub token_of : List ℕ → Option TokenKind
token_of [] = None
token_of (c ∷ cs) =
    let more = take_while continues_word cs in
    if starts_word c then word_token (c ∷ more) (drop (length more) cs) (sign_of (c ∷ more))
    else (if is_digit c then number_token (c ∷ cs)
    else (if c == 64 then label_token cs
    else option_map kind.Sign (sign_of (c ∷ cs))))

-- a token, or digits
abbrev pub is_lexeme : List ℕ → Bool
is_lexeme w = is_some (token_of w) || is_number w
