-- Lexing as it is run: what stands at the front of a text, with its number of characters.
use Rattle.std.specs.Prelude.{ℕ, zero, suc, ◌+◌, ◌&&◌, ◌==◌, nat_le, if◌then◌else◌, List, [], ◌∷◌, take, drop, length, take_while, Option, Some, None, ℤ, pos}
use Rattle.std.specs.Option.{option_map}
use Rattle.std.specs.Char.{is_whitespace}
use Rattle.std.specs.Str.{encode_utf8_all}
use Rattle.eb_signs.specs.declared.sign.Sign.{Sign}
use Rattle.eb_lexer.specs.declared.token.TokenKind.{TokenKind}
use Rattle.eb_lexer.specs.declared.token.TokenKind.TheVariants as kind
use Rattle.eb_lexer.specs.declared.pieces.Next.{Next}
use Rattle.eb_lexer.specs.declared.pieces.Next.TheVariants as next_of
use Rattle.eb_lexer.specs.Tokens.{starts_word, continues_word, continues_label, is_digit, number_on, is_in_line, begins_close}
use Rattle.eb_signs.specs.Signs.{reserved, symbol}

-- what stands at the front: nothing, nothing known, white space or a comment, or a token
pub data Step : Type 0 where
  stop : Step
  bad : Step
  passed : ℕ → Step
  found : TokenKind → ℕ → Step

abbrev pub seen : Next → Step
seen next_of.End = stop
seen next_of.Bad = bad
seen (next_of.Gap n) = passed n
seen (next_of.Found k n) = found k n

-- a sign of so many characters, or else a shorter one
abbrev pub level : ℕ → Option Sign → Option (Sign × ℕ) → Option (Sign × ℕ)
level n (Some s) other = Some (s, n)
level n None other = other

-- the longest sign of at most so many characters at the front that is no word
abbrev pub sign_up_to : ℕ → List ℕ → Option (Sign × ℕ)
sign_up_to zero text = None
sign_up_to (suc n) text = if nat_le (suc n) (length text) then level (suc n) (symbol (take (suc n) text)) (sign_up_to n text) else sign_up_to n text

-- the longest sign at the front that is no word
unfoldable pub sign_at : List ℕ → Option (Sign × ℕ)
sign_at text = sign_up_to 5 text

-- a word, its length, what follows it, and the sign that it is
abbrev pub word_step : List ℕ → ℕ → List ℕ → Option Sign → TokenKind × ℕ
word_step w n rest (Some s) = (kind.Sign s, n)
word_step w n [] None = (kind.Word (encode_utf8_all w), n)
word_step w n (q ∷ qs) None = if q == 39 then (kind.Primed (encode_utf8_all w), n + 1) else (kind.Word (encode_utf8_all w), n)

-- the first character and those that continue a word
abbrev pub word_len : List ℕ → ℕ
word_len [] = 0
word_len (c ∷ cs) = 1 + length (take_while continues_word cs)

-- the word at the front of what begins with the start of a word
unfoldable pub word_at : List ℕ → TokenKind × ℕ
word_at text =
    let n = word_len text in
    word_step (take n text) n (drop n text) (reserved (encode_utf8_all (take n text)))

-- within 2 ^ 62
unfoldable pub number_of : List ℕ → Option ℤ
number_of digits = if nat_le (number_on 0 digits) 4611686018427387904 then Some (pos (number_on 0 digits)) else None

unfoldable pub number_at : List ℕ → Option (TokenKind × ℕ)
number_at text =
    let n = length (take_while is_digit text) in
    option_map (λ v. (kind.Number v, n)) (number_of (take n text))

-- the label behind an `@`, if there is one
unfoldable pub label_at : List ℕ → Option (TokenKind × ℕ)
label_at text =
    let n = length (take_while continues_label text) in
    if n == 0 then None else Some (kind.Label (encode_utf8_all (take n text)), 1 + n)

unfoldable pub token_at : List ℕ → Option (TokenKind × ℕ)
token_at [] = None
token_at (c ∷ cs) =
    if starts_word c then Some (word_at (c ∷ cs))
    else (if is_digit c then number_at (c ∷ cs)
    else (if c == 64 then label_at cs
    else option_map (λ x. (kind.Sign x.0, x.1)) (sign_at (c ∷ cs))))

-- the number of characters before the first `*/`
abbrev pub close_at : List ℕ → Option ℕ
close_at [] = None
close_at (c ∷ cs) = if begins_close (c ∷ cs) then Some 0 else option_map (λ n. n + 1) (close_at cs)

abbrev pub token_step : Option (TokenKind × ℕ) → Step
token_step (Some x) = found x.0 x.1
token_step None = bad

abbrev pub block_step : Option ℕ → Step
block_step (Some n) = passed (n + 4)
block_step None = bad

-- a comment or a token
abbrev pub solid : List ℕ → Step
solid [] = bad
solid (a ∷ []) = token_step (token_at (a ∷ []))
solid (a ∷ b ∷ cs) =
    if (a == 47) && (b == 47) then passed (length (take_while is_in_line cs) + 2)
    else (if (a == 47) && (b == 42) then block_step (close_at cs)
    else token_step (token_at (a ∷ b ∷ cs)))

unfoldable pub next : List ℕ → Step
next [] = stop
next (c ∷ cs) = if is_whitespace c then passed 1 else solid (c ∷ cs)
