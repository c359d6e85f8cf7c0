-- The tokens of a text, from the left.
use Rattle.std.proofs.Common.{◌≡◌, ◌∙◌, ℕ, ◌+◌, ◌≤◌, ◌<◌, List, [], ◌∷◌, ◌++◌, length, take, drop, refl, sym, ap, subst, arith, append_assoc, ◌-◌}
use Rattle.std.specs.Str.{chars, IsUtf8, encode_utf8_all}
use Rattle.std.proofs.lemmas.Str.{encodes-chars, encodes-append, length-le-encodes}
use Rattle.std.proofs.lemmas.List.{take_at, drop_at, append-nil, length-append}
use Rattle.eb_lexer.specs.declared.token.TokenKind.{TokenKind}
use Rattle.eb_lexer.specs.declared.token.Token.{Token}
use Rattle.eb_lexer.specs.Tokens.{Piece, blank, line, block, token, written, IsToken, IsFirst, Begins, size, sizes, tokens_at, IsTokens, IsBadAt, LieFrom}
use Rattle.eb_lexer.specs.declared.pieces.Next.{Next}
use Rattle.eb_lexer.specs.declared.pieces.Next.TheVariants as next_of
use Rattle.eb_lexer.specs.steps.Lexing.{Step, stop, bad, passed, found, next, seen}
use Rattle.eb_lexer.proofs.Sizes.{size-append}
use Rattle.eb_lexer.proofs.Spellings.{none_spelled}
use Rattle.eb_lexer.proofs.PieceLaws.{GapFirst, TokenFirst, NoneFirst, Holds, next_holds, first_same, not_empty}

-- ---- one list of pieces

same_begins : (ps : List Piece) (r s rest : List ℕ) → r ≡ s → Begins ps r rest → Begins ps s rest
same_begins ps r s rest e h = subst (λ (z : List ℕ). Begins ps z rest) e h

same_none : (p : Piece) (r s after : List ℕ) → r ≡ s → IsFirst p r after → IsFirst p s after
same_none p r s after e h = subst (λ (z : List ℕ). IsFirst p z after) e h

-- pieces up to places where none begins are the same pieces
pub pieces_same : (ps qs : List Piece) (text r s : List ℕ) → Begins ps text r → Begins qs text s
    → ((p : Piece) (after : List ℕ) → IsFirst p r after → ⊥) → ((p : Piece) (after : List ℕ) → IsFirst p s after → ⊥) → (ps ≡ qs) × (r ≡ s)
pieces_same [] [] text r s p q none other = (refl, sym p ∙ q)
pieces_same [] (y ∷ ys) text r s p q none other = absurd (none y q.0 (same_none y text r q.0 p q.1))
pieces_same (x ∷ xs) [] text r s p q none other = absurd (other x p.0 (same_none x text s p.0 q p.1))
pieces_same (x ∷ xs) (y ∷ ys) text r s p q none other =
    let both = first_same x y text p.0 q.0 p.1 q.1 in
    let first : x ≡ y = both.0 in
    let more = pieces_same xs ys p.0 r s p.2 (same_begins ys q.0 p.0 s (sym both.1) q.2) none other in
    let rest : xs ≡ ys = more.0 in
    (cc, more.1)

-- a text has one list of tokens
pub one_reading : (ts us : List Token) (text : List ℕ) → IsTokens ts text → IsTokens us text → ts ≡ us
one_reading ts us text h g =
    let both = pieces_same h.pieces g.pieces (chars text) [] [] h.whole g.whole not_empty not_empty in
    h.among ∙ ap (tokens_at 0) both.0 ∙ sym g.among

-- a text with tokens has no bad place
pub no_bad_place : (ts : List Token) (at : ℕ) (text : List ℕ) → IsTokens ts text → IsBadAt at text → ⊥
no_bad_place ts at text h g =
    let both = pieces_same h.pieces g.pieces (chars text) [] g.rest h.whole g.before not_empty g.none in
    absurd (omega (arith, ap length both.1, g.some))

-- there is one bad place at most
pub one_bad_place : (a b : ℕ) (text : List ℕ) → IsBadAt a text → IsBadAt b text → a ≡ b
one_bad_place a b text h g =
    let both = pieces_same h.pieces g.pieces (chars text) h.rest g.rest h.before g.before h.none g.none in
    h.place ∙ ap sizes both.0 ∙ sym g.place

-- ---- what is read so far

begins_more : (ps : List Piece) (p : Piece) (text mid rest : List ℕ) → Begins ps text mid → IsFirst p mid rest → Begins (ps ++ p ∷ []) text rest
begins_more [] p text mid rest h f = (rest, same_none p mid text rest (sym h) f, refl)
begins_more (x ∷ xs) p text mid rest h f = (h.0, h.1, begins_more xs p h.0 mid rest h.2 f)

sizes_more : (ps : List Piece) (p : Piece) → sizes (ps ++ p ∷ []) ≡ sizes ps + size (written p)
sizes_more [] p = omega arith
sizes_more (x ∷ xs) p = omega (arith, sizes_more xs p)

-- the tokens of pieces that begin later
shift : (a b : ℕ) (ps : List Piece) → a ≡ b → tokens_at a ps ≡ tokens_at b ps
shift a b ps e = ap (λ (n : ℕ). tokens_at n ps) e

tokens_more : (at : ℕ) (ps : List Piece) (p : Piece) → tokens_at at (ps ++ p ∷ []) ≡ tokens_at at ps ++ tokens_at (at + sizes ps) (p ∷ [])
tokens_more at [] p = shift at (at + 0) (p ∷ []) (omega arith)
tokens_more at (blank c ∷ xs) p =
    tokens_more (at + size (written (blank c))) xs p ∙ ap (λ z. tokens_at (at + size (written (blank c))) xs ++ z) (shift (at + size (written (blank c)) + sizes xs) (at + (size (written (blank c)) + sizes xs)) (p ∷ []) (omega arith))
tokens_more at (line b ∷ xs) p =
    tokens_more (at + size (written (line b))) xs p ∙ ap (λ z. tokens_at (at + size (written (line b))) xs ++ z) (shift (at + size (written (line b)) + sizes xs) (at + (size (written (line b)) + sizes xs)) (p ∷ []) (omega arith))
tokens_more at (block b ∷ xs) p =
    tokens_more (at + size (written (block b))) xs p ∙ ap (λ z. tokens_at (at + size (written (block b))) xs ++ z) (shift (at + size (written (block b)) + sizes xs) (at + (size (written (block b)) + sizes xs)) (p ∷ []) (omega arith))
tokens_more at (token k w ∷ xs) p =
    ap (λ z. record { kind = k; start = at; end = at + size w } ∷ z)
    (tokens_more (at + size w) xs p ∙ ap (λ z. tokens_at (at + size w) xs ++ z) (shift (at + size w + sizes xs) (at + (size w + sizes xs)) (p ∷ []) (omega arith)))

pub record ReadTo (ts : List Token) (at : ℕ) (text rest : List ℕ) : Type 0 where
  pub pieces : List Piece
  pub before : Begins pieces text rest
  pub place : at ≡ sizes pieces
  pub among : ts ≡ tokens_at 0 pieces

pub read_none : (text : List ℕ) → ReadTo [] 0 text text
read_none text = record { pieces = []; before = refl; place = refl; among = refl }

front_is : (p : Piece) (text rest : List ℕ) (n : ℕ) → IsFirst p text rest → length (written p) ≡ n → (take n text ≡ written p) × (drop n text ≡ rest) × (n ≤ length text)
front_is p text rest n h e =
    (ap (take n) h.front ∙ take_at (written p) rest n e, ap (drop n) h.front ∙ drop_at (written p) rest n e, omega (arith, ap length h.front, length-append (written p) rest))

some_written : (p : Piece) (text rest : List ℕ) → IsFirst p text rest → 0 < length (written p)
some_written (blank c) text rest h = omega arith
some_written (line b) text rest h = omega arith
some_written (block b) text rest h = omega arith
some_written (token k []) text rest h = absurd (none_spelled k rest h.fits)
some_written (token k (c ∷ cs)) text rest h = omega arith

pub gap_read : (ts : List Token) (at n : ℕ) (text rest : List ℕ) → ReadTo ts at text rest → next rest ≡ passed n → (0 < n) × (n ≤ length rest) × ReadTo ts (at + size (take n rest)) text (drop n rest)
gap_read ts at n text rest h e =
    let g : GapFirst n rest = subst (λ (s : Step). Holds s rest) e (next_holds rest) in
    let f = front_is g.piece rest g.rest n g.first g.count in
    let some : 0 < length (written g.piece) = some_written g.piece rest g.rest g.first in
    let bytes : size (take n rest) ≡ size (written g.piece) = ap size f.0 in (
      omega (arith, g.count, some),
      f.2,
      record {
        pieces = h.pieces ++ g.piece ∷ [];
        before = begins_more h.pieces g.piece text rest (drop n rest) h.before (subst (λ (z : List ℕ). IsFirst g.piece rest z) (sym f.1) g.first);
        place = omega (arith, h.place, bytes, sizes_more h.pieces g.piece);
        among = h.among ∙ sym (tokens_more 0 h.pieces g.piece ∙ ap (λ z. tokens_at 0 h.pieces ++ z) (g.apart (0 + sizes h.pieces)) ∙ append-nil (tokens_at 0 h.pieces));
      },
    )

pub token_read : (ts : List Token) (at n : ℕ) (k : TokenKind) (text rest : List ℕ) → ReadTo ts at text rest → next rest ≡ found k n
    → (0 < n) × (n ≤ length rest) × ReadTo (ts ++ record { kind = k; start = at; end = at + size (take n rest) } ∷ []) (at + size (take n rest)) text (drop n rest)
token_read ts at n k text rest h e =
    let g : TokenFirst k n rest = subst (λ (s : Step). Holds s rest) e (next_holds rest) in
    let p : Piece = token k g.w in
    let f = front_is p rest g.rest n g.first g.count in
    let some : 0 < length g.w = some_written p rest g.rest g.first in
    let bytes : size (take n rest) ≡ size g.w = ap size f.0 in
    let place : 0 + sizes h.pieces ≡ at = omega (arith, h.place) in (
      omega (arith, g.count, some),
      f.2,
      record {
        pieces = h.pieces ++ p ∷ [];
        before = begins_more h.pieces p text rest (drop n rest) h.before (subst (λ (z : List ℕ). IsFirst p rest z) (sym f.1) g.first);
        place = omega (arith, h.place, bytes, sizes_more h.pieces p);
        among = ap (λ z. z ++ record { kind = k; start = at; end = at + size (take n rest) } ∷ []) h.among
            ∙ ap (λ (b : ℕ). tokens_at 0 h.pieces ++ record { kind = k; start = at; end = at + b } ∷ []) bytes
            ∙ ap (λ (a : ℕ). tokens_at 0 h.pieces ++ record { kind = k; start = a; end = a + size g.w } ∷ []) (sym place)
            ∙ sym (tokens_more 0 h.pieces p);
      },
    )

begins_size : (ps : List Piece) (text rest : List ℕ) → Begins ps text rest → sizes ps + size rest ≡ size text
begins_size [] text rest h = omega (arith, ap size h)
begins_size (p ∷ ps) text rest h =
    omega (arith, begins_size ps h.0 rest h.2, ap size (h.1).front ∙ size-append (written p) h.0)

pub read_size : (ts : List Token) (at : ℕ) (text rest : List ℕ) → ReadTo ts at text rest → at + size rest ≡ size text
read_size ts at text rest h = omega (arith, h.place, begins_size h.pieces text rest h.before)

pub text_size : (text : List ℕ) → IsUtf8 text → size (chars text) ≡ length text
text_size text u = ap length (encodes-chars text u)

pub is_whole : (ts : List Token) (at : ℕ) (text rest : List ℕ) → IsUtf8 text → ReadTo ts at (chars text) rest → next rest ≡ stop → IsTokens ts text
is_whole ts at text rest u h e =
    let end : rest ≡ [] = subst (λ (s : Step). Holds s rest) e (next_holds rest) in
    record { utf8 = u; pieces = h.pieces; whole = subst (λ (z : List ℕ). Begins h.pieces (chars text) z) end h.before; among = h.among }

pub is_bad : (ts : List Token) (at : ℕ) (text rest : List ℕ) → IsUtf8 text → ReadTo ts at (chars text) rest → next rest ≡ bad → IsBadAt at text
is_bad ts at text rest u h e =
    let g : NoneFirst rest = subst (λ (s : Step). Holds s rest) e (next_holds rest) in
    record { utf8 = u; pieces = h.pieces; rest = rest; before = h.before; place = h.place; some = g.some; none = g.none }

-- the place of what is read lies in the text
pub read_within : (ts : List Token) (at : ℕ) (text rest : List ℕ) → IsUtf8 text → ReadTo ts at (chars text) rest → at ≤ length text
read_within ts at text rest u h = omega (arith, read_size ts at (chars text) rest h, text_size text u)

-- ---- the places of tokens

part_at : (front w rest text : List ℕ) (at n : ℕ) → text ≡ encode_utf8_all (front ++ (w ++ rest)) → at ≡ size front → n ≡ size w → take n (drop at text) ≡ encode_utf8_all w
part_at front w rest text at n e a l =
    let bytes : text ≡ encode_utf8_all front ++ (encode_utf8_all w ++ encode_utf8_all rest) =
    e ∙ encodes-append front (w ++ rest) ∙ ap (λ (z : List ℕ). encode_utf8_all front ++ z) (encodes-append w rest) in
    ap (λ (z : List ℕ). take n (drop at z)) bytes
    ∙ ap (take n) (drop_at (encode_utf8_all front) (encode_utf8_all w ++ encode_utf8_all rest) at (sym a))
    ∙ take_at (encode_utf8_all w) (encode_utf8_all rest) n (sym l)

lie_sooner : (a b : ℕ) (text : List ℕ) (ts : List Token) → a ≤ b → LieFrom b text ts → LieFrom a text ts
lie_sooner a b text [] l h = omega arith
lie_sooner a b text (t ∷ ts) l h = (omega (arith, h.0), h.1, h.2, h.3)

some_size : (c : ℕ) (cs : List ℕ) → 0 < size (c ∷ cs)
some_size c cs = omega (arith, length-le-encodes (c ∷ cs))

-- behind one piece
later_lie : (p : Piece) (ps : List Piece) (front rest mid text : List ℕ) (at : ℕ) → text ≡ encode_utf8_all (front ++ rest) → at ≡ size front → IsFirst p rest mid
    → ((f r t : List ℕ) (n : ℕ) → t ≡ encode_utf8_all (f ++ r) → n ≡ size f → Begins ps r [] → LieFrom n t (tokens_at n ps))
    → Begins ps mid [] → LieFrom (at + size (written p)) text (tokens_at (at + size (written p)) ps)
later_lie p ps front rest mid text at e a h more b =
    more (front ++ written p) mid text (at + size (written p))
    (e ∙ ap (λ (z : List ℕ). encode_utf8_all (front ++ z)) h.front ∙ ap encode_utf8_all (sym (append_assoc front (written p) mid)))
    (omega (arith, a, size-append front (written p))) b

-- a piece that is no token
lie_after : (p : Piece) (ps : List Piece) (front rest mid text : List ℕ) (at : ℕ) → text ≡ encode_utf8_all (front ++ rest) → at ≡ size front → IsFirst p rest mid
    → ((f r t : List ℕ) (n : ℕ) → t ≡ encode_utf8_all (f ++ r) → n ≡ size f → Begins ps r [] → LieFrom n t (tokens_at n ps))
    → Begins ps mid [] → LieFrom at text (tokens_at (at + size (written p)) ps)
lie_after p ps front rest mid text at e a h more b = lie_sooner at (at + size (written p)) text (tokens_at (at + size (written p)) ps) (omega arith) (later_lie p ps front rest mid text at e a h more b)

lie_pieces : (ps : List Piece) (front rest text : List ℕ) (at : ℕ) → text ≡ encode_utf8_all (front ++ rest) → at ≡ size front → Begins ps rest [] → LieFrom at text (tokens_at at ps)
lie_pieces [] front rest text at e a h = omega (arith, a, ap length e, size-append front rest)
lie_pieces (blank c ∷ ps) front rest text at e a h = lie_after (blank c) ps front rest h.0 text at e a h.1 (lie_pieces ps) h.2
lie_pieces (line b ∷ ps) front rest text at e a h = lie_after (line b) ps front rest h.0 text at e a h.1 (lie_pieces ps) h.2
lie_pieces (block b ∷ ps) front rest text at e a h = lie_after (block b) ps front rest h.0 text at e a h.1 (lie_pieces ps) h.2
lie_pieces (token k [] ∷ ps) front rest text at e a h = absurd (none_spelled k h.0 (h.1).fits)
lie_pieces (token k (c ∷ cs) ∷ ps) front rest text at e a h =
    let w : List ℕ = c ∷ cs in
    let t : IsToken k w h.0 = (h.1).fits in
    let whole : text ≡ encode_utf8_all (front ++ (w ++ h.0)) = e ∙ ap (λ (z : List ℕ). encode_utf8_all (front ++ z)) (h.1).front in (
      omega arith,
      omega (arith, some_size c cs),
      record { spelling = w; spelled = t.spelled; slice = part_at front w h.0 text at (at + size w - at) whole a (omega arith) },
      later_lie (token k w) ps front rest h.0 text at e a h.1 (lie_pieces ps) h.2,
    )

pub tokens_lie : (ts : List Token) (text : List ℕ) → IsTokens ts text → LieFrom 0 text ts
tokens_lie ts text h =
    subst (LieFrom 0 text) (sym h.among) (lie_pieces h.pieces [] (chars text) text 0 (sym (encodes-chars text h.utf8)) refl h.whole)

-- ---- a step of the code

-- so many characters are read on
pub record Moves (ts : List Token) (at n : ℕ) (text rest : List ℕ) : Type 0 where
  pub some : 0 < n
  pub within : n ≤ length rest
  pub bound : at + size (take n rest) ≤ length text
  pub read : ReadTo ts (at + size (take n rest)) (chars text) (drop n rest)

pub gap_moves : (ts : List Token) (at n : ℕ) (text rest : List ℕ) (x : Next) → IsUtf8 text → ReadTo ts at (chars text) rest → seen x ≡ next rest → x ≡ next_of.Gap n → Moves ts at n text rest
gap_moves ts at n text rest x u h e g =
    let r = gap_read ts at n (chars text) rest h (sym e ∙ ap seen g) in
    record { some = r.0; within = r.1; bound = read_within ts (at + size (take n rest)) text (drop n rest) u r.2; read = r.2 }

pub token_moves : (ts : List Token) (at n : ℕ) (k : TokenKind) (text rest : List ℕ) (x : Next) → IsUtf8 text → ReadTo ts at (chars text) rest → seen x ≡ next rest → x ≡ next_of.Found k n
    → Moves (ts ++ record { kind = k; start = at; end = at + size (take n rest) } ∷ []) at n text rest
token_moves ts at n k text rest x u h e g =
    let r = token_read ts at n k (chars text) rest h (sym e ∙ ap seen g) in
    let more : List Token = ts ++ record { kind = k; start = at; end = at + size (take n rest) } ∷ [] in
    record { some = r.0; within = r.1; bound = read_within more (at + size (take n rest)) text (drop n rest) u r.2; read = r.2 }
