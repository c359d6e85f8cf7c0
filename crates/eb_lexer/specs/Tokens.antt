-- The tokens of a text. A text is parted into white space, comments and tokens, and each token is the longest one at its place.
-- All of this speaks of characters; a token's place counts bytes.
use Rattle.std.specs.Prelude.{◌≡◌, ℕ, ◌+◌, ◌*◌, ◌-◌, ◌^◌, ◌<◌, ◌≤◌, ◌⊎◌, Bool, true, false, not, ◌&&◌, ◌||◌, ◌==◌, nat_le, List, [], ◌∷◌, ◌++◌, length, take, drop, pos, None, Some, ⊤}
use Rattle.std.specs.List.{list_all}
use Rattle.std.specs.Char.{is_whitespace}
use Rattle.std.specs.Str.{encode_utf8_all, chars, IsUtf8}
use Rattle.unicode_ident.specs.Ident.{is_xid_start, is_xid_continue}
use Rattle.eb_lexer.specs.declared.token.TokenKind.{TokenKind}
use Rattle.eb_lexer.specs.declared.token.TokenKind.TheVariants as kind
use Rattle.eb_lexer.specs.declared.token.Token.{Token}
use Rattle.eb_lexer.specs.declared.token.LexFault.{LexFault}
use Rattle.eb_lexer.specs.declared.token.LexFault.TheVariants as fault
use Rattle.eb_signs.specs.declared.sign.Sign.{Sign}
use Rattle.eb_signs.specs.Signs.{sign_of, same_sign}

-- λ, ℕ, ℙ, ℤ and the dot · are signs, and never part of an identifier
abbrev pub is_sign_letter : ℕ → Bool
is_sign_letter c = (c == 0x03BB) || (c == 0x2115) || (c == 0x2119) || (c == 0x2124) || (c == 0x00B7)

-- `_` or a character of XID_Start, but for those
unfoldable pub starts_word : ℕ → Bool
starts_word c = ((c == 95) || is_xid_start c) && not (is_sign_letter c)

-- a character of XID_Continue, but for those
unfoldable pub continues_word : ℕ → Bool
continues_word c = is_xid_continue c && not (is_sign_letter c)

-- `-` or a character of XID_Continue, but for ·
unfoldable pub continues_label : ℕ → Bool
continues_label c = (c == 45) || (is_xid_continue c && not (c == 0x00B7))

-- 0 to 9
abbrev pub is_digit : ℕ → Bool
is_digit c = nat_le 48 c && nat_le c 57

-- the number that digits write, after a number that was read
abbrev pub number_on : ℕ → List ℕ → ℕ
number_on n [] = n
number_on n (d ∷ ds) = number_on (10 * n + (d - 48)) ds

-- an identifier: a character that starts it, and those that go on
abbrev pub is_identifier : List ℕ → Bool
is_identifier [] = false
is_identifier (c ∷ cs) = starts_word c && list_all continues_word cs

-- one or more characters of a label
abbrev pub is_label_text : List ℕ → Bool
is_label_text [] = false
is_label_text (c ∷ cs) = list_all continues_label (c ∷ cs)

-- one or more digits
abbrev pub is_number : List ℕ → Bool
is_number [] = false
is_number (d ∷ ds) = list_all is_digit (d ∷ ds)

-- these characters write the token. A word that a sign is spelled with is reserved: it is no name, and never primed
abbrev pub Spells : TokenKind → List ℕ → Type 0
Spells (kind.Word name) w = (is_identifier w ≡ true) × (sign_of w ≡ None) × (name ≡ encode_utf8_all w)
Spells (kind.Primed name) w = (v : List ℕ) × (w ≡ v ++ 39 ∷ []) × (is_identifier v ≡ true) × (sign_of v ≡ None) × (name ≡ encode_utf8_all v)
Spells (kind.Label name) w = (v : List ℕ) × (w ≡ 64 ∷ v) × (is_label_text v ≡ true) × (name ≡ encode_utf8_all v)
Spells (kind.Number n) w = (is_number w ≡ true) × (number_on 0 w ≤ 2 ^ 62) × (n ≡ pos (number_on 0 w))
Spells (kind.Sign s) w = sign_of w ≡ Some s

-- whether the token is this sign
abbrev pub is_kind : Sign → TokenKind → Bool
is_kind sign (kind.Sign r) = same_sign r sign
is_kind sign _ = false

-- a token is written so, or it is a number that may be too large for one
abbrev pub IsLexeme : List ℕ → Type 0
IsLexeme w = ((k : TokenKind) × Spells k w) ⊎ (is_number w ≡ true)

-- `//` or `/*`
abbrev pub begins_comment : List ℕ → Bool
begins_comment [] = false
begins_comment (a ∷ []) = false
begins_comment (a ∷ b ∷ cs) = (a == 47) && ((b == 47) || (b == 42))

-- white space or a comment
abbrev pub begins_gap : List ℕ → Bool
begins_gap [] = false
begins_gap (c ∷ cs) = is_whitespace c || begins_comment (c ∷ cs)

-- no line feed
abbrev pub is_in_line : ℕ → Bool
is_in_line c = not (c == 10)

-- the text ends here, or a line of it
abbrev pub EndsLine : List ℕ → Type 0
EndsLine [] = ⊤
EndsLine (c ∷ cs) = c ≡ 10

-- `*/`
abbrev pub begins_close : List ℕ → Bool
begins_close [] = false
begins_close (a ∷ []) = false
begins_close (a ∷ b ∷ cs) = (a == 42) && (b == 47)

-- somewhere stands `*/`
abbrev pub has_close : List ℕ → Bool
has_close [] = false
has_close (c ∷ cs) = begins_close (c ∷ cs) || has_close cs

-- a part of a text: a character of white space, a comment of a line, a comment between marks, or a token with its characters
pub data Piece : Type 0 where
  blank : ℕ → Piece
  line : List ℕ → Piece
  block : List ℕ → Piece
  token : TokenKind → List ℕ → Piece

-- the characters of a piece
abbrev pub written : Piece → List ℕ
written (blank c) = c ∷ []
written (line body) = 47 ∷ 47 ∷ body
written (block body) = 47 ∷ 42 ∷ (body ++ 42 ∷ 47 ∷ [])
written (token k w) = w

-- these characters write the token, neither white space nor a comment begins with them, and no longer lexeme does
pub record IsToken (k : TokenKind) (w rest : List ℕ) : Type 0 where
  pub spelled : Spells k w
  pub apart : begins_gap (w ++ rest) ≡ false
  pub longest : (longer after : List ℕ) → w ++ rest ≡ longer ++ after → length w < length longer → IsLexeme longer → ⊥

-- the piece may stand before the rest
abbrev pub Fits : Piece → List ℕ → Type 0
Fits (blank c) rest = is_whitespace c ≡ true
Fits (line body) rest = (list_all is_in_line body ≡ true) × EndsLine rest
Fits (block body) rest = has_close body ≡ false
Fits (token k w) rest = IsToken k w rest

-- the piece stands at the front of the text, and the rest is behind it
pub record IsFirst (p : Piece) (text rest : List ℕ) : Type 0 where
  pub front : text ≡ written p ++ rest
  pub fits : Fits p rest

-- the text begins with these pieces, and the rest is behind them
abbrev pub Begins : List Piece → List ℕ → List ℕ → Type 0
Begins [] text rest = text ≡ rest
Begins (p ∷ ps) text rest = (mid : List ℕ) × IsFirst p text mid × Begins ps mid rest

-- the number of bytes of some characters
abbrev pub size : List ℕ → ℕ
size cs = length (encode_utf8_all cs)

-- the number of bytes of some pieces
abbrev pub sizes : List Piece → ℕ
sizes [] = 0
sizes (p ∷ ps) = size (written p) + sizes ps

-- the tokens among pieces that begin at this byte
abbrev pub tokens_at : ℕ → List Piece → List Token
tokens_at at [] = []
tokens_at at (blank c ∷ ps) = tokens_at (at + size (written (blank c))) ps
tokens_at at (line body ∷ ps) = tokens_at (at + size (written (line body))) ps
tokens_at at (block body ∷ ps) = tokens_at (at + size (written (block body))) ps
tokens_at at (token k w ∷ ps) = record { kind = k; start = at; end = at + size w } ∷ tokens_at (at + size w) ps

-- these are the tokens of the text: it is UTF-8, pieces make it up, and these are the tokens among them
pub record IsTokens (ts : List Token) (text : List ℕ) : Type 0 where
  pub utf8 : IsUtf8 text
  pub pieces : List Piece
  pub whole : Begins pieces (chars text) []
  pub among : ts ≡ tokens_at 0 pieces

-- behind some pieces, at this byte, something is left with which no piece begins
pub record IsBadAt (at : ℕ) (text : List ℕ) : Type 0 where
  pub utf8 : IsUtf8 text
  pub pieces : List Piece
  pub rest : List ℕ
  pub before : Begins pieces (chars text) rest
  pub place : at ≡ sizes pieces
  pub some : 0 < length rest
  pub none : (p : Piece) (after : List ℕ) → IsFirst p rest after → ⊥

-- the cause of each fault; want of memory has none
abbrev pub IsFaultOf : List ℕ → LexFault → Type 0
IsFaultOf text fault.NotUtf8 = IsUtf8 text → ⊥
IsFaultOf text (fault.BadToken at) = IsBadAt at text
IsFaultOf text fault.Memory = ⊤

-- some characters that write the token, at its place in the text
pub record IsAtPlace (t : Token) (text : List ℕ) : Type 0 where
  pub spelling : List ℕ
  pub spelled : Spells t.kind spelling
  pub slice : take (t.end - t.start) (drop t.start text) ≡ encode_utf8_all spelling

-- the tokens lie in the text one behind another, none before this byte
abbrev pub LieFrom : ℕ → List ℕ → List Token → Type 0
LieFrom at text [] = at ≤ length text
LieFrom at text (t ∷ ts) = (at ≤ t.start) × (t.start < t.end) × IsAtPlace t text × LieFrom t.end text ts
