-- The pieces of a text: what the code finds at the front is the one piece there.
use Rattle.std.proofs.Common.{◌≡◌, ◌∙◌, ℕ, ◌+◌, ◌<◌, Bool, true, false, cond, not, ◌&&◌, ◌||◌, ◌==◌, List, [], ◌∷◌, ◌++◌, length, drop, refl, sym, ap, subst, append_assoc, arith, nat_lt}
use Rattle.std.specs.Prelude.{take_while, Option, Some, None}
use Rattle.std.specs.Option.{is_some, option_map}
use Rattle.std.specs.List.{list_all}
use Rattle.std.specs.Char.{is_whitespace}
use Rattle.std.proofs.lemmas.Bool.Decides.{nat_tests}
use Rattle.std.proofs.lemmas.List.{length-append}
use Rattle.eb_lexer.specs.declared.token.TokenKind.{TokenKind}
use Rattle.eb_lexer.specs.Tokens.{is_number, is_in_line, EndsLine, begins_close, has_close, begins_gap, Piece, blank, line, block, token, written, IsToken, Fits, IsFirst, tokens_at}
use Rattle.eb_lexer.proofs.TokenOf.{token_of, is_lexeme}
use Rattle.eb_lexer.proofs.Spellings.{longest_of, token_from, none_spelled}
use Rattle.eb_lexer.specs.steps.Lexing.{Step, stop, bad, passed, found, next, solid, token_step, token_at, block_step, close_at}
use Rattle.eb_lexer.proofs.Bools.{is_same, and_false, either_false, both_true}
use Rattle.eb_lexer.proofs.Runs.{Stops, run_passes, run_exact}
use Rattle.eb_lexer.proofs.TokenLaws.{run_stops, run_parts, IsLongest, Reads, token_at_reads}

-- ---- where a comment is closed

record Closes (t : List ℕ) (n : ℕ) : Type 0 where
  pub body : List ℕ
  pub rest : List ℕ
  pub parts : t ≡ body ++ 42 ∷ 47 ∷ rest
  pub count : length body ≡ n
  pub before : has_close body ≡ false

-- a part of what doesn't begin so doesn't either
begins_part : (c : ℕ) (body rest : List ℕ) → begins_close (c ∷ (body ++ rest)) ≡ false → begins_close (c ∷ body) ≡ false
begins_part c [] rest h = refl
begins_part c (d ∷ ds) rest h = h

closes_here : (c : ℕ) (cs : List ℕ) (n : ℕ) → begins_close (c ∷ cs) ≡ true → Some 0 ≡ Some n → Closes (c ∷ cs) n
closes_here c [] n h e = absurd cc
closes_here c (d ∷ ds) n h e =
    let both = both_true (c == 42) (d == 47) h in
    let first : c ≡ 42 = is_same c 42 both.0 in
    let second : d ≡ 47 = is_same d 47 both.1 in
    let zero_is : 0 ≡ n = cc in
    record { body = []; rest = ds; parts = rw (first, second) refl; count = zero_is; before = refl }

closes_later : (c : ℕ) (cs : List ℕ) (n : ℕ) (o : Option ℕ) → begins_close (c ∷ cs) ≡ false → ((m : ℕ) → o ≡ Some m → Closes cs m) → option_map (λ m. m + 1) o ≡ Some n → Closes (c ∷ cs) n
closes_later c cs n None h more e = absurd cc
closes_later c cs n (Some m) h more e =
    let later = more m refl in
    let is : m + 1 ≡ n = cc in
    let no : begins_close (c ∷ later.body) ≡ false = begins_part c later.body (42 ∷ 47 ∷ later.rest) (subst (λ (z : List ℕ). begins_close (c ∷ z) ≡ false) later.parts h) in
    record { body = c ∷ later.body; rest = later.rest; parts = ap (λ (z : List ℕ). c ∷ z) later.parts; count = omega (arith, later.count); before = rw (no, later.before) refl }

closes_case : (c : ℕ) (cs : List ℕ) (n : ℕ) (t : Bool) → begins_close (c ∷ cs) ≡ t → ((m : ℕ) → close_at cs ≡ Some m → Closes cs m) → cond t (Some 0) (option_map (λ m. m + 1) (close_at cs)) ≡ Some n → Closes (c ∷ cs) n
closes_case c cs n true h more e = closes_here c cs n h e
closes_case c cs n false h more e = closes_later c cs n (close_at cs) h more e

close_found : (t : List ℕ) (n : ℕ) → close_at t ≡ Some n → Closes t n
close_found [] n e = absurd cc
close_found (c ∷ cs) n e = closes_case c cs n (begins_close (c ∷ cs)) refl (close_found cs) e

begins_whole : (c : ℕ) (body rest : List ℕ) → begins_close (c ∷ body) ≡ false → begins_close (c ∷ (body ++ 42 ∷ 47 ∷ rest)) ≡ false
begins_whole c [] rest h = and_false (c == 42)
begins_whole c (d ∷ ds) rest h = h

close_exact : (body rest : List ℕ) → has_close body ≡ false → close_at (body ++ 42 ∷ 47 ∷ rest) ≡ Some (length body)
close_exact [] rest h = refl
close_exact (c ∷ cs) rest h =
    let no = either_false (begins_close (c ∷ cs)) (has_close cs) h in
    let here : begins_close (c ∷ (cs ++ 42 ∷ 47 ∷ rest)) ≡ false = begins_whole c cs rest no.0 in
    let count : length cs + 1 ≡ length (c ∷ cs) = omega arith in
    rw (here, close_exact cs rest no.1) (ap (λ (n : ℕ). Some n) count)

-- ---- what is found at the front

pub record GapFirst (n : ℕ) (text : List ℕ) : Type 0 where
  pub piece : Piece
  pub rest : List ℕ
  pub first : IsFirst piece text rest
  pub count : length (written piece) ≡ n
  pub apart : (at : ℕ) → tokens_at at (piece ∷ []) ≡ []

pub record TokenFirst (k : TokenKind) (n : ℕ) (text : List ℕ) : Type 0 where
  pub w : List ℕ
  pub rest : List ℕ
  pub first : IsFirst (token k w) text rest
  pub count : length w ≡ n

pub record NoneFirst (text : List ℕ) : Type 0 where
  pub some : 0 < length text
  pub none : (p : Piece) (after : List ℕ) → IsFirst p text after → ⊥

abbrev pub Holds : Step → List ℕ → Type 0
Holds stop text = text ≡ []
Holds bad text = NoneFirst text
Holds (passed n) text = GapFirst n text
Holds (found k n) text = TokenFirst k n text

-- ---- tokens

-- no piece but a token begins where no gap does
only_tokens : (text : List ℕ) → begins_gap text ≡ false → ((k : TokenKind) (w rest : List ℕ) → text ≡ w ++ rest → IsLongest k w rest → ⊥) → (p : Piece) (after : List ℕ) → IsFirst p text after → ⊥
only_tokens text g none (blank c) after h =
    let space : is_whitespace c ≡ true = h.fits in
    let begins : begins_gap (c ∷ after) ≡ true = rw space refl in
    let f : begins_gap text ≡ true = ap begins_gap h.front ∙ begins in
    cc
only_tokens text g none (line body) after h = let f : begins_gap text ≡ true = ap begins_gap h.front in cc
only_tokens text g none (block body) after h = let f : begins_gap text ≡ true = ap begins_gap h.front in cc
only_tokens text g none (token k w) after h = none k w after h.front (longest_of k w after h.fits)

token_holds : (text : List ℕ) (o : Option (TokenKind × ℕ)) → begins_gap text ≡ false → 0 < length text → Reads o text → Holds (token_step o) text
token_holds text None g l h = record { some = l; none = only_tokens text g h.none }
token_holds text (Some x) g l h = record {
  w = h.w;
  rest = h.rest;
  count = h.count;
  first = record { front = h.parts; fits = token_from x.0 h.w h.rest h.first (ap begins_gap (sym h.parts) ∙ g) };
}

-- ---- comments

ends_char : (c : ℕ) (t : Bool) → (c == 10) ≡ t → not t ≡ false → c ≡ 10
ends_char c true e h = is_same c 10 e
ends_char c false e h = absurd cc

ends_at : (rest : List ℕ) → Stops is_in_line rest → EndsLine rest
ends_at [] h = tt
ends_at (c ∷ cs) h = ends_char c (c == 10) refl h

line_first : (cs : List ℕ) → GapFirst (length (take_while is_in_line cs) + 2) (47 ∷ 47 ∷ cs)
line_first cs =
    let body : List ℕ = take_while is_in_line cs in
    let rest : List ℕ = drop (length body) cs in
    record {
      piece = line body;
      rest = rest;
      count = omega arith;
      apart = λ at. refl;
      first = record { front = ap (λ (z : List ℕ). 47 ∷ 47 ∷ z) (run_parts is_in_line cs); fits = (run_passes is_in_line cs, ends_at rest (run_stops is_in_line cs)) };
    }

closed_front : (body rest cs : List ℕ) → cs ≡ body ++ 42 ∷ 47 ∷ rest → 47 ∷ 42 ∷ cs ≡ written (block body) ++ rest
closed_front body rest cs e = ap (λ (z : List ℕ). 47 ∷ 42 ∷ z) (e ∙ sym (append_assoc body (42 ∷ 47 ∷ []) rest))

second_same : (a b c d : ℕ) (xs ys : List ℕ) → a ∷ c ∷ xs ≡ b ∷ d ∷ ys → c ≡ d
second_same a b c d xs ys e = cc

none_closed : (cs : List ℕ) → close_at cs ≡ None → (p : Piece) (after : List ℕ) → IsFirst p (47 ∷ 42 ∷ cs) after → ⊥
none_closed cs e (blank c) after h =
    let same : c ≡ 47 = (let f = h.front in cc) in
    let space : is_whitespace 47 ≡ true = subst (λ (z : ℕ). is_whitespace z ≡ true) same h.fits in
    cc
none_closed cs e (line body) after h = absurd (omega (arith, second_same 47 47 42 47 cs (body ++ after) h.front))
none_closed cs e (block body) after h =
    let f : 47 ∷ 42 ∷ cs ≡ 47 ∷ 42 ∷ (body ++ 42 ∷ 47 ∷ after) = h.front ∙ sym (closed_front body after (body ++ 42 ∷ 47 ∷ after) refl) in
    let g : cs ≡ body ++ 42 ∷ 47 ∷ after = cc in
    let yes : close_at cs ≡ Some (length body) = ap close_at g ∙ close_exact body after h.fits in
    cc
none_closed cs e (token k w) after h =
    let t : IsToken k w after = h.fits in
    let f : begins_gap (w ++ after) ≡ true = sym (ap begins_gap h.front) in
    let g = t.apart in
    cc

block_holds : (cs : List ℕ) (o : Option ℕ) → close_at cs ≡ o → Holds (block_step o) (47 ∷ 42 ∷ cs)
block_holds cs None e = record { some = omega arith; none = none_closed cs e }
block_holds cs (Some n) e =
    let c = close_found cs n e in
    record {
      piece = block c.body;
      rest = c.rest;
      apart = λ at. refl;
      count = omega (arith, c.count, length-append c.body (42 ∷ 47 ∷ []));
      first = record { front = closed_front c.body c.rest cs c.parts; fits = c.before };
    }

-- ---- any piece

no_comment : (a b : ℕ) (t : Bool) → (a == 47) ≡ t → ((a == 47) && (b == 47)) ≡ false → ((a == 47) && (b == 42)) ≡ false → ((a == 47) && ((b == 47) || (b == 42))) ≡ false
no_comment a b false e p q = rw e refl
no_comment a b true e p q =
    let x : (b == 47) ≡ false = (rw e at p) in
    let y : (b == 42) ≡ false = (rw e at q) in
    rw (e, x, y) refl

solid_case : (a b : ℕ) (cs : List ℕ) (s t : Bool) → is_whitespace a ≡ false → ((a == 47) && (b == 47)) ≡ s → ((a == 47) && (b == 42)) ≡ t
    → Holds (cond s (passed (length (take_while is_in_line cs) + 2)) (cond t (block_step (close_at cs)) (token_step (token_at (a ∷ b ∷ cs))))) (a ∷ b ∷ cs)
solid_case a b cs true t w p q =
    let both = both_true (a == 47) (b == 47) p in
    let first : a ≡ 47 = is_same a 47 both.0 in
    let second : b ≡ 47 = is_same b 47 both.1 in
    subst (λ (z : ℕ). GapFirst (length (take_while is_in_line cs) + 2) (z ∷ b ∷ cs)) (sym first)
    (subst (λ (z : ℕ). GapFirst (length (take_while is_in_line cs) + 2) (47 ∷ z ∷ cs)) (sym second) (line_first cs))
solid_case a b cs false true w p q =
    let both = both_true (a == 47) (b == 42) q in
    let first : a ≡ 47 = is_same a 47 both.0 in
    let second : b ≡ 42 = is_same b 42 both.1 in
    subst (λ (z : ℕ). Holds (block_step (close_at cs)) (z ∷ b ∷ cs)) (sym first)
    (subst (λ (z : ℕ). Holds (block_step (close_at cs)) (47 ∷ z ∷ cs)) (sym second) (block_holds cs (close_at cs) refl))
solid_case a b cs false false w p q =
    let gap : begins_gap (a ∷ b ∷ cs) ≡ false = rw (w, no_comment a b (a == 47) refl p q) refl in
    token_holds (a ∷ b ∷ cs) (token_at (a ∷ b ∷ cs)) gap (omega arith) (token_at_reads (a ∷ b ∷ cs))

solid_holds : (c : ℕ) (cs : List ℕ) → is_whitespace c ≡ false → Holds (solid (c ∷ cs)) (c ∷ cs)
solid_holds c [] w = token_holds (c ∷ []) (token_at (c ∷ [])) (rw w refl) (omega arith) (token_at_reads (c ∷ []))
solid_holds c (b ∷ cs) w = solid_case c b cs ((c == 47) && (b == 47)) ((c == 47) && (b == 42)) w refl refl

next_case : (c : ℕ) (cs : List ℕ) (t : Bool) → is_whitespace c ≡ t → Holds (cond t (passed 1) (solid (c ∷ cs))) (c ∷ cs)
next_case c cs false w = solid_holds c cs w
next_case c cs true w = record { piece = blank c; rest = cs; count = refl; apart = λ at. refl; first = record { front = refl; fits = w } }

pub next_holds : (text : List ℕ) → Holds (next text) text
unfolding next
next_holds [] = refl
next_holds (c ∷ cs) = next_case c cs (is_whitespace c) refl

-- ---- no other piece stands at the front

same_length : (v w r s : List ℕ) → v ++ r ≡ w ++ s → length v ≡ length w → (v ≡ w) × (r ≡ s)
same_length [] [] r s e l = (refl, e)
same_length [] (y ∷ ys) r s e l = absurd (omega arith)
same_length (x ∷ xs) [] r s e l = absurd (omega arith)
same_length (x ∷ xs) (y ∷ ys) r s e l =
    let same : x ≡ y = cc in
    let more : xs ++ r ≡ ys ++ s = cc in
    let both = same_length xs ys r s more (omega arith) in
    let tails = both.0 in
    (cc, both.1)

token_lexeme : (k : TokenKind) (w : List ℕ) → token_of w ≡ Some k → is_lexeme w ≡ true
token_lexeme k w e = ap (λ (o : Option TokenKind). is_some o || is_number w) e

tokens_same : (k l : TokenKind) (v w r s : List ℕ) → v ++ r ≡ w ++ s → IsToken k v r → IsToken l w s → (t u : Bool) → nat_lt (length v) (length w) ≡ t → nat_lt (length w) (length v) ≡ u
    → (token k v ≡ token l w) × (r ≡ s)
tokens_same k l v w r s e p q true u t o =
    let no : is_lexeme w ≡ false = (longest_of k v r p).longest w s e (grind (arith, nat_tests)) in
    let yes = token_lexeme l w (longest_of l w s q).spelled in
    absurd cc
tokens_same k l v w r s e p q false true t o =
    let no : is_lexeme v ≡ false = (longest_of l w s q).longest v r (sym e) (grind (arith, nat_tests)) in
    let yes = token_lexeme k v (longest_of k v r p).spelled in
    absurd cc
tokens_same k l v w r s e p q false false t o =
    let count : length v ≡ length w = grind (arith, nat_tests) in
    let both = same_length v w r s e count in
    let text : v ≡ w = both.0 in
    let one : token_of v ≡ Some k = (longest_of k v r p).spelled in
    let two : token_of w ≡ Some l = (longest_of l w s q).spelled in
    let kinds : k ≡ l = cc in
    (cc, both.1)

stops_at : (rest : List ℕ) → EndsLine rest → Stops is_in_line rest
stops_at [] h = tt
stops_at (c ∷ cs) h = rw h refl

lines_same : (b d r s : List ℕ) → b ++ r ≡ d ++ s → list_all is_in_line b ≡ true → EndsLine r → list_all is_in_line d ≡ true → EndsLine s → (b ≡ d) × (r ≡ s)
lines_same b d r s e p x q y =
    let one : take_while is_in_line (b ++ r) ≡ b = run_exact is_in_line b r p (stops_at r x) in
    let two : take_while is_in_line (d ++ s) ≡ d = run_exact is_in_line d s q (stops_at s y) in
    same_length b d r s e (ap length (sym one ∙ ap (take_while is_in_line) e ∙ two))

blocks_same : (b d r s : List ℕ) → b ++ 42 ∷ 47 ∷ r ≡ d ++ 42 ∷ 47 ∷ s → has_close b ≡ false → has_close d ≡ false → (b ≡ d) × (r ≡ s)
blocks_same b d r s e p q =
    let one : close_at (b ++ 42 ∷ 47 ∷ r) ≡ Some (length b) = close_exact b r p in
    let two : close_at (d ++ 42 ∷ 47 ∷ s) ≡ Some (length d) = close_exact d s q in
    let count : length b ≡ length d = cc in
    let both = same_length b d (42 ∷ 47 ∷ r) (42 ∷ 47 ∷ s) e count in
    let rests = both.1 in
    (both.0, cc)

same_two : (a b : ℕ) (xs ys : List ℕ) → a ∷ b ∷ xs ≡ a ∷ b ∷ ys → xs ≡ ys
same_two a b xs ys e = cc

no_space : (c : ℕ) (xs ys : List ℕ) → is_whitespace c ≡ true → c ∷ xs ≡ 47 ∷ ys → ⊥
no_space c xs ys h e =
    let same : c ≡ 47 = cc in
    let f : is_whitespace 47 ≡ true = subst (λ (z : ℕ). is_whitespace z ≡ true) same h in
    cc

space_begins : (c : ℕ) (cs : List ℕ) → is_whitespace c ≡ true → begins_gap (c ∷ cs) ≡ true
space_begins c cs h = rw h refl

no_gap : (k : TokenKind) (w r text : List ℕ) → IsToken k w r → w ++ r ≡ text → begins_gap text ≡ true → ⊥
no_gap k w r text h e g = let f = h.apart in let same : begins_gap (w ++ r) ≡ begins_gap text = ap begins_gap e in cc

piece_same : (p q : Piece) (r s : List ℕ) → written p ++ r ≡ written q ++ s → Fits p r → Fits q s → (p ≡ q) × (r ≡ s)
piece_same (blank c) (blank d) r s e p q = (cc, cc)
piece_same (blank c) (line b) r s e p q = absurd (no_space c r (47 ∷ (b ++ s)) p e)
piece_same (blank c) (block b) r s e p q = absurd (no_space c r (42 ∷ ((b ++ 42 ∷ 47 ∷ []) ++ s)) p e)
piece_same (blank c) (token k w) r s e p q = absurd (no_gap k w s (c ∷ r) q (sym e) (space_begins c r p))
piece_same (line b) (blank c) r s e p q = absurd (no_space c s (47 ∷ (b ++ r)) q (sym e))
piece_same (line b) (line d) r s e p q =
    let both = lines_same b d r s (same_two 47 47 (b ++ r) (d ++ s) e) p.0 p.1 q.0 q.1 in
    let same = both.0 in
    (cc, both.1)
piece_same (line b) (block d) r s e p q = absurd (omega (arith, second_same 47 47 47 42 (b ++ r) ((d ++ 42 ∷ 47 ∷ []) ++ s) e))
piece_same (line b) (token k w) r s e p q = absurd (no_gap k w s (47 ∷ 47 ∷ (b ++ r)) q (sym e) refl)
piece_same (block b) (blank c) r s e p q = absurd (no_space c s (42 ∷ ((b ++ 42 ∷ 47 ∷ []) ++ r)) q (sym e))
piece_same (block b) (line d) r s e p q = absurd (omega (arith, second_same 47 47 42 47 ((b ++ 42 ∷ 47 ∷ []) ++ r) (d ++ s) e))
piece_same (block b) (block d) r s e p q =
    let bodies : (b ++ 42 ∷ 47 ∷ []) ++ r ≡ (d ++ 42 ∷ 47 ∷ []) ++ s = same_two 47 42 ((b ++ 42 ∷ 47 ∷ []) ++ r) ((d ++ 42 ∷ 47 ∷ []) ++ s) e in
    let both = blocks_same b d r s (sym (append_assoc b (42 ∷ 47 ∷ []) r) ∙ bodies ∙ append_assoc d (42 ∷ 47 ∷ []) s) p q in
    let same = both.0 in
    (cc, both.1)
piece_same (block b) (token k w) r s e p q = absurd (no_gap k w s (47 ∷ 42 ∷ ((b ++ 42 ∷ 47 ∷ []) ++ r)) q (sym e) refl)
piece_same (token k w) (blank c) r s e p q = absurd (no_gap k w r (c ∷ s) p e (space_begins c s q))
piece_same (token k w) (line b) r s e p q = absurd (no_gap k w r (47 ∷ 47 ∷ (b ++ s)) p e refl)
piece_same (token k w) (block b) r s e p q = absurd (no_gap k w r (47 ∷ 42 ∷ ((b ++ 42 ∷ 47 ∷ []) ++ s)) p e refl)
piece_same (token k v) (token l w) r s e p q = tokens_same k l v w r s e p q (nat_lt (length v) (length w)) (nat_lt (length w) (length v)) refl refl

pub first_same : (p q : Piece) (text r s : List ℕ) → IsFirst p text r → IsFirst q text s → (p ≡ q) × (r ≡ s)
first_same p q text r s h g = piece_same p q r s (sym h.front ∙ g.front) h.fits g.fits

-- a piece has characters
pub not_empty : (p : Piece) (after : List ℕ) → IsFirst p [] after → ⊥
not_empty (blank c) after h = let f = h.front in cc
not_empty (line b) after h = let f = h.front in cc
not_empty (block b) after h = let f = h.front in cc
not_empty (token k []) after h = none_spelled k after h.fits
not_empty (token k (c ∷ cs)) after h = let f = h.front in cc
