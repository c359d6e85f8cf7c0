-- What the spellings of signs look like, and the longest sign at the front of a text.
use Rattle.std.proofs.Common.{◌≡◌, ◌∙◌, ℕ, ◌<◌, ◌≤◌, Bool, true, false, cond, not, ◌&&◌, ◌||◌, ◌==◌, List, [], ◌∷◌, ◌++◌, length, refl, sym, ap, subst, arith, nat_lt, nat_le, suc, zero, take}
use Rattle.std.specs.Prelude.{Option, Some, None}
use Rattle.std.specs.List.{list_all, list_any}
use Rattle.std.specs.Str.{bytes_eq, encode_utf8_all}
use Rattle.std.proofs.lemmas.Slice.Eq.{bytes_eq-Decides}
use Rattle.std.proofs.lemmas.Bool.Decides.{nat_tests}
use Rattle.std.proofs.lemmas.Str.{encodes_same, encode_ascii}
use Rattle.std.proofs.lemmas.List.{length-take-le}
use Rattle.unicode_ident.proofs.Computing.{unicode_ident}
use Rattle.eb_signs.specs.declared.sign.Sign.{Sign}
use Rattle.eb_signs.specs.Signs.{signs, sign_of, spelled_among, begins_with_letter, reserved, symbol}
use Rattle.eb_lexer.specs.Tokens.{starts_word, continues_word, is_identifier, is_digit}
use Rattle.eb_lexer.specs.steps.Lexing.{level, sign_up_to, sign_at}
use Rattle.eb_lexer.proofs.Bools.{both_true}

-- ---- what a spelling passes that all spellings pass

abbrev AllSpell : (List ℕ → Bool) → Type 0
AllSpell p = list_all (λ (row : Sign × List (List ℕ)). list_all p row.1) signs ≡ true

among_row : (p : List ℕ → Bool) (w v : List ℕ) (t : Bool) → bytes_eq w v ≡ t → p v ≡ true → t ≡ true → p w ≡ true
among_row p w v t same passes e = ap p ((bytes_eq-Decides w v).0 (same ∙ e)) ∙ passes

either : (a b : Bool) (P : Type 0) → (a || b) ≡ true → (a ≡ true → P) → (b ≡ true → P) → P
either true b P h f g = f refl
either false b P h f g = g h

any_passes : (p : List ℕ → Bool) (w : List ℕ) (ws : List (List ℕ)) → list_all p ws ≡ true → list_any (bytes_eq w) ws ≡ true → p w ≡ true
any_passes p w [] all e = absurd cc
any_passes p w (v ∷ vs) all e =
    let parts = both_true (p v) (list_all p vs) all in
    either (bytes_eq w v) (list_any (bytes_eq w) vs) (p w ≡ true) e (λ h. among_row p w v (bytes_eq w v) refl parts.0 h) (λ h. any_passes p w vs parts.1 h)

row_passes : (t : Bool) (p : List ℕ → Bool) (w : List ℕ) (s r : Sign) (o : Option Sign) → (t ≡ true → p w ≡ true) → (o ≡ Some s → p w ≡ true) → cond t (Some r) o ≡ Some s → p w ≡ true
row_passes true p w s r o f g e = f refl
row_passes false p w s r o f g e = g e

among_passes : (p : List ℕ → Bool) (rows : List (Sign × List (List ℕ))) (w : List ℕ) (s : Sign) → list_all (λ (row : Sign × List (List ℕ)). list_all p row.1) rows ≡ true
    → spelled_among w rows ≡ Some s → p w ≡ true
among_passes p [] w s all e = absurd cc
among_passes p (row ∷ rows) w s all e =
    let parts = both_true (list_all p row.1) (list_all (λ (r : Sign × List (List ℕ)). list_all p r.1) rows) all in
    row_passes (list_any (bytes_eq w) row.1) p w s row.0 (spelled_among w rows) (λ h. any_passes p w row.1 parts.0 h) (λ h. among_passes p rows w s parts.1 h) e

spelling_passes : (p : List ℕ → Bool) (w : List ℕ) (s : Sign) → AllSpell p → sign_of w ≡ Some s → p w ≡ true
unfolding sign_of
spelling_passes p w s all e = among_passes p signs w s all e

-- ---- words and other signs

abbrev begins_word : List ℕ → Bool
begins_word [] = false
begins_word (c ∷ cs) = starts_word c

abbrev all_ascii : List ℕ → Bool
all_ascii w = list_all (λ c. nat_lt c 128) w

-- neither a digit nor `@`
abbrev begins_symbol : List ℕ → Bool
begins_symbol [] = false
begins_symbol (c ∷ cs) = not (starts_word c) && not (is_digit c || (c == 64))

-- a word is an identifier of ASCII, and another sign has at most five characters
abbrev is_spelling : List ℕ → Bool
is_spelling w = cond (begins_with_letter w) (is_identifier w && all_ascii w) (begins_symbol w && nat_le (length w) 5)

spellings : AllSpell is_spelling
unfolding signs starts_word continues_word unicode_ident
spellings = refl

letter_case : (t : Bool) (a b : Bool) → cond t a b ≡ true → t ≡ true → a ≡ true
letter_case true a b h e = h
letter_case false a b h e = absurd cc

other_case : (t : Bool) (a b : Bool) → cond t a b ≡ true → t ≡ false → b ≡ true
other_case true a b h e = absurd cc
other_case false a b h e = h

letter_spelling : (w : List ℕ) (s : Sign) → sign_of w ≡ Some s → begins_with_letter w ≡ true → (is_identifier w && all_ascii w) ≡ true
letter_spelling w s e h = letter_case (begins_with_letter w) (is_identifier w && all_ascii w) (begins_symbol w && nat_le (length w) 5) (spelling_passes is_spelling w s spellings e) h

other_spelling : (w : List ℕ) (s : Sign) → sign_of w ≡ Some s → begins_with_letter w ≡ false → (begins_symbol w && nat_le (length w) 5) ≡ true
other_spelling w s e h = other_case (begins_with_letter w) (is_identifier w && all_ascii w) (begins_symbol w && nat_le (length w) 5) (spelling_passes is_spelling w s spellings e) h

-- a spelling that begins as words do begins with a letter
word_letter : (c : ℕ) (cs : List ℕ) (s : Sign) (t : Bool) → begins_with_letter (c ∷ cs) ≡ t → starts_word c ≡ true → sign_of (c ∷ cs) ≡ Some s → t ≡ true
word_letter c cs s true l h e = refl
word_letter c cs s false l h e =
    let other = both_true (begins_symbol (c ∷ cs)) (nat_le (length (c ∷ cs)) 5) (other_spelling (c ∷ cs) s e l) in
    let apart = both_true (not (starts_word c)) (not (is_digit c || (c == 64))) other.0 in
    absurd cc

-- and one that doesn't begins with none
symbol_letter : (c : ℕ) (cs : List ℕ) (s : Sign) (t : Bool) → begins_with_letter (c ∷ cs) ≡ t → starts_word c ≡ false → sign_of (c ∷ cs) ≡ Some s → t ≡ false
symbol_letter c cs s false l h e = refl
symbol_letter c cs s true l h e =
    let word = both_true (is_identifier (c ∷ cs)) (all_ascii (c ∷ cs)) (letter_spelling (c ∷ cs) s e l) in
    let start = both_true (starts_word c) (list_all continues_word cs) word.0 in
    absurd cc

pub reserved_identifier : (c : ℕ) (cs : List ℕ) (s : Sign) → starts_word c ≡ true → sign_of (c ∷ cs) ≡ Some s → is_identifier (c ∷ cs) ≡ true
reserved_identifier c cs s h e = (both_true (is_identifier (c ∷ cs)) (all_ascii (c ∷ cs)) (letter_spelling (c ∷ cs) s e (word_letter c cs s (begins_with_letter (c ∷ cs)) refl h e))).0

pub symbol_apart : (c : ℕ) (cs : List ℕ) (s : Sign) → starts_word c ≡ false → sign_of (c ∷ cs) ≡ Some s → not (is_digit c || (c == 64)) ≡ true
symbol_apart c cs s h e =
    let other = both_true (begins_symbol (c ∷ cs)) (nat_le (length (c ∷ cs)) 5) (other_spelling (c ∷ cs) s e (symbol_letter c cs s (begins_with_letter (c ∷ cs)) refl h e)) in
    (both_true (not (starts_word c)) (not (is_digit c || (c == 64))) other.0).1

pub no_empty_sign : sign_of [] ≡ None
unfolding sign_of signs
no_empty_sign = refl

-- a sign that doesn't begin as words do has at most five characters
none_longer : (c : ℕ) (cs : List ℕ) (o : Option Sign) → sign_of (c ∷ cs) ≡ o → starts_word c ≡ false → 5 < length (c ∷ cs) → o ≡ None
none_longer c cs None e h l = refl
none_longer c cs (Some s) e h l =
    let other = both_true (begins_symbol (c ∷ cs)) (nat_le (length (c ∷ cs)) 5) (other_spelling (c ∷ cs) s e (symbol_letter c cs s (begins_with_letter (c ∷ cs)) refl h e)) in
    let short : nat_le (length (c ∷ cs)) 5 ≡ true = other.1 in
    absurd (grind (arith, nat_tests))

-- ---- words by their bytes

ascii_bytes : (w : List ℕ) → all_ascii w ≡ true → encode_utf8_all w ≡ w
ascii_bytes [] h = refl
ascii_bytes (c ∷ cs) h =
    let parts = both_true (nat_lt c 128) (all_ascii cs) h in
    let low : c < 128 = grind (arith, nat_tests) in
    ap (λ (x : List ℕ). x ++ encode_utf8_all cs) (encode_ascii c low) ∙ ap (λ (x : List ℕ). c ∷ x) (ascii_bytes cs parts.1)

none_spelled : (w : List ℕ) (o : Option Sign) (t : Bool) → begins_with_letter (encode_utf8_all w) ≡ t → sign_of (encode_utf8_all w) ≡ o → sign_of w ≡ None → cond t o None ≡ None
none_spelled w o false h e n = refl
none_spelled w None true h e n = refl
none_spelled w (Some s) true h e n =
    let ascii : all_ascii (encode_utf8_all w) ≡ true = (both_true (is_identifier (encode_utf8_all w)) (all_ascii (encode_utf8_all w)) (letter_spelling (encode_utf8_all w) s e h)).1 in
    let same : encode_utf8_all w ≡ w = encodes_same (encode_utf8_all w) w (ascii_bytes (encode_utf8_all w) ascii) in
    let found : sign_of w ≡ Some s = ap sign_of (sym same) ∙ e in
    absurd cc

some_spelled : (c : ℕ) (cs : List ℕ) (s : Sign) → starts_word c ≡ true → sign_of (c ∷ cs) ≡ Some s → reserved (encode_utf8_all (c ∷ cs)) ≡ Some s
unfolding reserved
some_spelled c cs s h e =
    let letter : begins_with_letter (c ∷ cs) ≡ true = word_letter c cs s (begins_with_letter (c ∷ cs)) refl h e in
    let ascii : all_ascii (c ∷ cs) ≡ true = (both_true (is_identifier (c ∷ cs)) (all_ascii (c ∷ cs)) (letter_spelling (c ∷ cs) s e letter)).1 in
    ap reserved (ascii_bytes (c ∷ cs) ascii) ∙ ap (λ (t : Bool). cond t (sign_of (c ∷ cs)) None) letter ∙ e

reserved_case : (c : ℕ) (cs : List ℕ) (o : Option Sign) → sign_of (c ∷ cs) ≡ o → starts_word c ≡ true → reserved (encode_utf8_all (c ∷ cs)) ≡ o
unfolding reserved
reserved_case c cs None e h = none_spelled (c ∷ cs) (sign_of (encode_utf8_all (c ∷ cs))) (begins_with_letter (encode_utf8_all (c ∷ cs))) refl refl e
reserved_case c cs (Some s) e h = some_spelled c cs s h e

-- the code's reserved words are the signs that are words
pub reserved_is : (c : ℕ) (cs : List ℕ) → starts_word c ≡ true → reserved (encode_utf8_all (c ∷ cs)) ≡ sign_of (c ∷ cs)
reserved_is c cs h = reserved_case c cs (sign_of (c ∷ cs)) refl h

-- and its other signs those that begin as no word does
symbol_case : (c : ℕ) (cs : List ℕ) (o : Option Sign) (t : Bool) → sign_of (c ∷ cs) ≡ o → begins_with_letter (c ∷ cs) ≡ t → starts_word c ≡ false → cond t None o ≡ o
symbol_case c cs o false e l h = refl
symbol_case c cs None true e l h = refl
symbol_case c cs (Some s) true e l h = let none : true ≡ false = symbol_letter c cs s true l h e in absurd cc

symbol_is : (c : ℕ) (cs : List ℕ) → starts_word c ≡ false → symbol (c ∷ cs) ≡ sign_of (c ∷ cs)
unfolding symbol
symbol_is c cs h = symbol_case c cs (sign_of (c ∷ cs)) (begins_with_letter (c ∷ cs)) refl refl h

-- ---- the longest sign at the front

-- the longest sign among the first k characters
abbrev UpTo : ℕ → Option (Sign × ℕ) → List ℕ → Type 0
UpTo k None text = (m : ℕ) → 0 < m → m ≤ k → m ≤ length text → sign_of (take m text) ≡ None
UpTo k (Some x) text = (0 < x.1) × (x.1 ≤ length text) × (sign_of (take x.1 text) ≡ Some x.0)
    × ((m : ℕ) → x.1 < m → m ≤ k → m ≤ length text → sign_of (take m text) ≡ None)

one_more : (k m : ℕ) (text : List ℕ) (t : Bool) → nat_le m k ≡ t → m ≤ suc k → sign_of (take (suc k) text) ≡ None → (m ≤ k → sign_of (take m text) ≡ None) → sign_of (take m text) ≡ None
one_more k m text true t h e f = f (grind (arith, nat_tests))
one_more k m text false t h e f =
    let same : m ≡ suc k = grind (arith, nat_tests) in
    ap (λ (n : ℕ). sign_of (take n text)) same ∙ e

level_up : (k : ℕ) (o : Option Sign) (other : Option (Sign × ℕ)) (text : List ℕ) → suc k ≤ length text → sign_of (take (suc k) text) ≡ o → UpTo k other text → UpTo (suc k) (level (suc k) o other) text
level_up k (Some s) other text l e h = (omega arith, l, e, λ m a b c. absurd (omega arith))
level_up k None None text l e h = λ m a b c. one_more k m text (nat_le m k) refl b e (λ d. h m a d c)
level_up k None (Some x) text l e h = (h.0, h.1, h.2, λ m a b c. one_more k m text (nat_le m k) refl b e (λ d. h.3 m a d c))

level_short : (k : ℕ) (other : Option (Sign × ℕ)) (text : List ℕ) → length text ≤ k → UpTo k other text → UpTo (suc k) other text
level_short k None text l h = λ m a b c. h m a (omega arith) c
level_short k (Some x) text l h = (h.0, h.1, h.2, λ m a b c. h.3 m a (omega arith) c)

symbol_taken : (a : ℕ) (rest : List ℕ) (k : ℕ) → starts_word a ≡ false → sign_of (take (suc k) (a ∷ rest)) ≡ symbol (take (suc k) (a ∷ rest))
symbol_taken a rest k h = sym (symbol_is a (take k rest) h)

up_to_case : (k : ℕ) (a : ℕ) (rest : List ℕ) (t : Bool) → nat_le (suc k) (length (a ∷ rest)) ≡ t → starts_word a ≡ false → UpTo k (sign_up_to k (a ∷ rest)) (a ∷ rest)
    → UpTo (suc k) (cond t (level (suc k) (symbol (take (suc k) (a ∷ rest))) (sign_up_to k (a ∷ rest))) (sign_up_to k (a ∷ rest))) (a ∷ rest)
up_to_case k a rest true t h u = level_up k (symbol (take (suc k) (a ∷ rest))) (sign_up_to k (a ∷ rest)) (a ∷ rest) (grind (arith, nat_tests)) (symbol_taken a rest k h) u
up_to_case k a rest false t h u = level_short k (sign_up_to k (a ∷ rest)) (a ∷ rest) (grind (arith, nat_tests)) u

up_to_any : (k : ℕ) (a : ℕ) (rest : List ℕ) → starts_word a ≡ false → UpTo k (sign_up_to k (a ∷ rest)) (a ∷ rest)
up_to_any zero a rest h = λ m b c d. absurd (omega arith)
up_to_any (suc k) a rest h = up_to_case k a rest (nat_le (suc k) (length (a ∷ rest))) refl h (up_to_any k a rest h)

up_five : (a : ℕ) (rest : List ℕ) → starts_word a ≡ false → UpTo 5 (sign_at (a ∷ rest)) (a ∷ rest)
unfolding sign_at
up_five a rest h = up_to_any 5 a rest h

beyond : (a : ℕ) (rest : List ℕ) (m : ℕ) → starts_word a ≡ false → 5 < m → m ≤ length (a ∷ rest) → sign_of (take m (a ∷ rest)) ≡ None
beyond a rest zero h l w = absurd (omega arith)
beyond a rest (suc m) h l w = none_longer a (take m rest) (sign_of (take (suc m) (a ∷ rest))) refl h (omega (arith, length-take-le m rest (omega arith)))

any_length : (a : ℕ) (rest : List ℕ) (m : ℕ) (t : Bool) → nat_le m 5 ≡ t → starts_word a ≡ false → m ≤ length (a ∷ rest) → (m ≤ 5 → sign_of (take m (a ∷ rest)) ≡ None) → sign_of (take m (a ∷ rest)) ≡ None
any_length a rest m true t h l f = f (grind (arith, nat_tests))
any_length a rest m false t h l f = beyond a rest m h (grind (arith, nat_tests)) l

-- the sign that is found, and that no longer one is at the front
pub record IsLongestSign (s : Sign) (n : ℕ) (text : List ℕ) : Type 0 where
  pub some : 0 < n
  pub within : n ≤ length text
  pub spelled : sign_of (take n text) ≡ Some s
  pub longest : (m : ℕ) → n < m → m ≤ length text → sign_of (take m text) ≡ None

found_case : (a : ℕ) (rest : List ℕ) (o : Option (Sign × ℕ)) → starts_word a ≡ false → UpTo 5 o (a ∷ rest) → (s : Sign) (n : ℕ) → o ≡ Some (s, n) → IsLongestSign s n (a ∷ rest)
found_case a rest None h u s n e = absurd cc
found_case a rest (Some x) h u s n e =
    let same : x ≡ (s, n) = cc in
    subst (λ (z : Sign × ℕ). IsLongestSign z.0 z.1 (a ∷ rest)) same
    (record { some = u.0; within = u.1; spelled = u.2; longest = λ m l w. any_length a rest m (nat_le m 5) refl h w (λ k. u.3 m l k w) })

pub sign_found : (a : ℕ) (rest : List ℕ) (s : Sign) (n : ℕ) → starts_word a ≡ false → sign_at (a ∷ rest) ≡ Some (s, n) → IsLongestSign s n (a ∷ rest)
sign_found a rest s n h e = found_case a rest (sign_at (a ∷ rest)) h (up_five a rest h) s n e

none_case : (a : ℕ) (rest : List ℕ) (o : Option (Sign × ℕ)) → starts_word a ≡ false → UpTo 5 o (a ∷ rest) → o ≡ None → (m : ℕ) → 0 < m → m ≤ length (a ∷ rest) → sign_of (take m (a ∷ rest)) ≡ None
none_case a rest (Some x) h u e = absurd cc
none_case a rest None h u e = λ m l w. any_length a rest m (nat_le m 5) refl h w (λ k. u m l k w)

pub sign_none : (a : ℕ) (rest : List ℕ) → starts_word a ≡ false → sign_at (a ∷ rest) ≡ None → (m : ℕ) → 0 < m → m ≤ length (a ∷ rest) → sign_of (take m (a ∷ rest)) ≡ None
sign_none a rest h e = none_case a rest (sign_at (a ∷ rest)) h (up_five a rest h) e
