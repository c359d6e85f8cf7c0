-- A text of tokens, each with a blank behind it, has these tokens.
use Rattle.std.proofs.Common.{◌≡◌, ◌∙◌, inl, inr, ◌≤◌, ◌<◌, ◌+◌, ◌-◌, ◌^◌, ℕ, zero, suc, ℤ, pos, Bool, true, false, not, List, [], ◌∷◌, ◌++◌, length, take, drop, refl, sym, ap, subst, arith, rules, append_assoc}
use Rattle.std.specs.Prelude.{Some, None, ◌&&◌, ◌||◌, ◌==◌, codes, cond, nat_le, nat_lt}
use Rattle.std.specs.List.{list_all, list_any}
use Rattle.std.specs.Char.{is_whitespace}
use Rattle.std.specs.Fmt.{decimal, signed_decimal}
use Rattle.std.specs.Str.{encode_utf8_all, chars, IsUtf8, bytes_eq}
use Rattle.std.proofs.Math.Utf8.{scalar, scalars, encode}
use Rattle.std.proofs.lemmas.Str.{chars-encodes, scalars-chars, encodes-append}
use Rattle.std.proofs.lemmas.Str.Parse.{IsDigitsTest, FoldsDigits, IsNumeralModel, numerals_by_fold}
use Rattle.std.proofs.lemmas.Fmt.{digits_decimal, digits_value-decimal, decimal_is_IsNumeral}
use Rattle.std.proofs.lemmas.List.Folds.{list_all-append}
use Rattle.std.proofs.lemmas.Slice.Eq.{bytes_eq-Decides}
use Rattle.std.proofs.lemmas.Bool.Decides.{nat_tests}
use Rattle.unicode_ident.proofs.Computing.{unicode_ident}
use Rattle.eb_signs.specs.declared.sign.Sign.{Sign}
use Rattle.eb_lexer.specs.declared.token.Token.{Token}
use Rattle.eb_lexer.specs.declared.token.TokenKind.{TokenKind}
use Rattle.eb_lexer.specs.declared.token.TokenKind.TheVariants as kind
use Rattle.eb_signs.specs.Signs.{signs, sign_of, spelled_among, same_sign, first_of, first_spelling, sign_text}
use Rattle.eb_lexer.specs.Tokens.{starts_word, continues_word, continues_label, is_digit, number_on, is_identifier, is_label_text, is_number, Spells, IsLexeme, begins_comment, begins_gap, Piece, blank, line, block, token, written, IsToken, Begins, size, tokens_at, IsTokens}
use Rattle.eb_spelling.specs.Spelling.{kind_text, text_of}
use Rattle.eb_spelling.proofs.SpellingLaws.{kinds}

-- no blank
abbrev clean : ℕ → Bool
clean c = not (c == 32)

by_flag : {A : Type 0} (c : Bool) → (c ≡ true → A) → (c ≡ false → A) → A
by_flag true f g = f refl
by_flag false f g = g refl

not_both : true ≡ false → ⊥
not_both e = cc

and_both : (a c : Bool) → (a && c) ≡ true → (a ≡ true) × (c ≡ true)
and_both true true e = (refl, refl)
and_both true false e = absurd cc
and_both false c e = absurd cc

both_true : (a c : Bool) → a ≡ true → c ≡ true → (a && c) ≡ true
both_true a c e f = rw (e, f) refl

and_false : (c : Bool) → (c && false) ≡ false
and_false true = refl
and_false false = refl

or_none : (a c : Bool) → (a || c) ≡ false → (a ≡ false) × (c ≡ false)
or_none true c e = absurd cc
or_none false c e = (refl, e)

all_more : (p q : ℕ → Bool) → ((c : ℕ) → p c ≡ true → q c ≡ true) → (xs : List ℕ) → list_all p xs ≡ true → list_all q xs ≡ true
all_more p q f [] e = refl
all_more p q f (x ∷ xs) e = let w = and_both (p x) (list_all p xs) e in both_true (q x) (list_all q xs) (f x w.0) (all_more p q f xs w.1)

all_hits : (w u : List ℕ) → list_all clean (w ++ (32 ∷ u)) ≡ false
all_hits [] u = refl
all_hits (x ∷ w) u = rw (all_hits w u) (and_false (clean x))

clean_from : (p : ℕ → Bool) → p 32 ≡ false → (c : ℕ) → p c ≡ true → clean c ≡ true
clean_from p h c e = by_flag (c == 32) (λ i. let z : c ≡ 32 = grind (arith, nat_tests) in absurd (not_both (sym e ∙ (ap p z ∙ h)))) (λ i. ap not i)

blank_starts : starts_word 32 ≡ false
unfolding starts_word unicode_ident
blank_starts = refl

blank_continues : continues_word 32 ≡ false
unfolding continues_word unicode_ident
blank_continues = refl

blank_label : continues_label 32 ≡ false
unfolding continues_label unicode_ident
blank_label = refl

identifier_clean : (w : List ℕ) → is_identifier w ≡ true → list_all clean w ≡ true
identifier_clean [] e = absurd cc
identifier_clean (c ∷ cs) e =
    let w = and_both (starts_word c) (list_all continues_word cs) e in
    both_true (clean c) (list_all clean cs) (clean_from starts_word blank_starts c w.0) (all_more continues_word clean (clean_from continues_word blank_continues) cs w.1)

label_clean : (w : List ℕ) → is_label_text w ≡ true → list_all clean w ≡ true
label_clean [] e = absurd cc
label_clean (c ∷ cs) e = all_more continues_label clean (clean_from continues_label blank_label) (c ∷ cs) e

number_clean : (w : List ℕ) → is_number w ≡ true → list_all clean w ≡ true
number_clean [] e = absurd cc
number_clean (c ∷ cs) e = all_more is_digit clean (clean_from is_digit refl) (c ∷ cs) e

same_bytes : (w x : List ℕ) → bytes_eq w x ≡ true → w ≡ x
same_bytes w x e = search (rules, bytes_eq-Decides)

any_clean : (w : List ℕ) (xs : List (List ℕ)) → list_all (λ x. list_all clean x) xs ≡ true → list_any (bytes_eq w) xs ≡ true → list_all clean w ≡ true
any_clean w [] h e = absurd cc
any_clean w (x ∷ xs) h e =
    let t = and_both (list_all clean x) (list_all (λ x. list_all clean x) xs) h in
    by_flag (bytes_eq w x) (λ i. ap (list_all clean) (same_bytes w x i) ∙ t.0) (λ i. any_clean w xs t.1 (ap (λ z. z || list_any (bytes_eq w) xs) (sym i) ∙ e))

among_clean : (w : List ℕ) (r : Sign) (rows : List (Sign × List (List ℕ))) → list_all (λ row. list_all (λ x. list_all clean x) row.1) rows ≡ true → spelled_among w rows ≡ Some r → list_all clean w ≡ true
among_clean w r [] h e = absurd cc
among_clean w r (row ∷ rows) h e =
    let t = and_both (list_all (λ x. list_all clean x) row.1) (list_all (λ row. list_all (λ x. list_all clean x) row.1) rows) h in
    by_flag (list_any (bytes_eq w) row.1) (λ i. any_clean w row.1 t.0 i) (λ i. among_clean w r rows t.1 (ap (λ z. cond z (Some row.0) (spelled_among w rows)) (sym i) ∙ e))

signs_clean : list_all (λ row. list_all (λ x. list_all clean x) row.1) signs ≡ true
unfolding signs
signs_clean = refl

sign_clean : (w : List ℕ) (r : Sign) → sign_of w ≡ Some r → list_all clean w ≡ true
unfolding sign_of
sign_clean w r e = among_clean w r signs signs_clean e

spelled_clean : (k : TokenKind) (w : List ℕ) → Spells k w → list_all clean w ≡ true
spelled_clean (kind.Word x) w e = identifier_clean w e.0
spelled_clean (kind.Primed x) w e = ap (list_all clean) e.1 ∙ (list_all-append clean e.0 (39 ∷ []) ∙ both_true (list_all clean e.0) (list_all clean (39 ∷ [])) (identifier_clean e.0 e.2) refl)
spelled_clean (kind.Label x) w e = ap (list_all clean) e.1 ∙ label_clean e.0 e.2
spelled_clean (kind.Number n) w e = number_clean w e.0
spelled_clean (kind.Sign r) w e = sign_clean w r e

lexeme_clean : (w : List ℕ) → IsLexeme w → list_all clean w ≡ true
lexeme_clean w (inl k) = spelled_clean k.0 w k.1
lexeme_clean w (inr n) = number_clean w n

first_same : (a c : ℕ) (us vs : List ℕ) → a ∷ us ≡ c ∷ vs → a ≡ c
first_same a c us vs e = cc

rest_same : (a c : ℕ) (us vs : List ℕ) → a ∷ us ≡ c ∷ vs → us ≡ vs
rest_same a c us vs e = cc

reach : (w rest longer after : List ℕ) → w ++ (32 ∷ rest) ≡ longer ++ after → length w < length longer → (u : List ℕ) × (longer ≡ w ++ (32 ∷ u))
reach w rest [] after e l = absurd (omega arith)
reach [] rest (c ∷ longer) after e l = (longer, ap (λ z. z ∷ longer) (sym (first_same 32 c rest (longer ++ after) e)))
reach (x ∷ w) rest (c ∷ longer) after e l =
    let r = reach w rest longer after (rest_same x c (w ++ (32 ∷ rest)) (longer ++ after) e) (omega arith) in
    (r.0, ap (λ z. z ∷ longer) (sym (first_same x c (w ++ (32 ∷ rest)) (longer ++ after) e)) ∙ ap (λ z. x ∷ z) r.1)

-- no lexeme reaches past a blank
parted_token : (k : TokenKind) (w rest : List ℕ) → Spells k w → begins_gap (w ++ (32 ∷ rest)) ≡ false → IsToken k w (32 ∷ rest)
parted_token k w rest e h = record {
  spelled = e;
  apart = h;
  longest = λ longer after i l x. let r = reach w rest longer after i l in not_both (sym (lexeme_clean longer x) ∙ (ap (list_all clean) r.1 ∙ all_hits w r.0));
}

-- a token as it is written again
pub record Respelled (k : TokenKind) : Type 0 where
  pub w : List ℕ
  pub spelled : Spells k w
  pub text : kind_text k ≡ encode_utf8_all w
  pub scalar : scalars w ≡ true
  pub apart : (rest : List ℕ) → begins_gap (w ++ (32 ∷ rest)) ≡ false

first_apart : (c : ℕ) (us : List ℕ) → is_whitespace c ≡ false → (c == 47) ≡ false → begins_gap (c ∷ us) ≡ false
first_apart c [] h i = rw h refl
first_apart c (u ∷ us) h i = rw (h, i) refl

slash_starts : starts_word 47 ≡ false
unfolding starts_word unicode_ident
slash_starts = refl

no_slash : (p : ℕ → Bool) → p 47 ≡ false → (c : ℕ) → p c ≡ true → (c == 47) ≡ false
no_slash p h c e = by_flag (c == 47) (λ i. let z : c ≡ 47 = grind (arith, nat_tests) in absurd (not_both (sym e ∙ (ap p z ∙ h)))) (λ i. i)

word_apart : (w rest us : List ℕ) → is_identifier w ≡ true → begins_gap (w ++ rest) ≡ false → begins_gap (w ++ us) ≡ false
word_apart [] rest us e h = absurd cc
word_apart (c ∷ cs) rest us e h =
    let w = and_both (starts_word c) (list_all continues_word cs) e in
    first_apart c (cs ++ us) (or_none (is_whitespace c) (begins_comment (c ∷ (cs ++ rest))) h).0 (no_slash starts_word slash_starts c w.0)

digit_space : (d : ℕ) → is_digit d ≡ true → is_whitespace d ≡ false
digit_space d e =
    let w = and_both (nat_le 48 d) (nat_le d 57) e in
    let a : 48 ≤ d = grind (arith, nat_tests) in
    let b : d ≤ 57 = grind (arith, nat_tests) in
    grind (arith, nat_tests)

scalars_both : (xs ys : List ℕ) → scalars (xs ++ ys) ≡ (scalars xs && scalars ys)
scalars_both [] ys = refl
scalars_both (x ∷ xs) ys = ap (λ z. scalar x && z) (scalars_both xs ys) ∙ and_assoc (scalar x) (scalars xs) (scalars ys)
  where
    and_assoc : (a b c : Bool) → (a && (b && c)) ≡ ((a && b) && c)
    and_assoc true b c = refl
    and_assoc false b c = refl

scalars_parts : (xs ys : List ℕ) → scalars (xs ++ ys) ≡ true → (scalars xs ≡ true) × (scalars ys ≡ true)
scalars_parts xs ys e = and_both (scalars xs) (scalars ys) (sym (scalars_both xs ys) ∙ e)

-- numbers
digits_are : IsDigitsTest (λ ds. list_all is_digit ds ≡ true)
digits_are = record {
  empty = refl;
  parts = λ c cs e. let w = and_both (is_digit c) (list_all is_digit cs) e in let v = and_both (nat_le 48 c) (nat_le c 57) w.0 in ((grind (arith, nat_tests), grind (arith, nat_tests)), w.1);
  more = λ c cs k e. both_true (is_digit c) (list_all is_digit cs) (grind (arith, nat_tests, k)) e;
}

folds_digits : FoldsDigits number_on
folds_digits = record { empty = λ n. refl; more = λ n c cs k. ap (λ z. number_on (z + (c - 48)) cs) (omega arith) }

numbers : IsNumeralModel (λ ds. list_all is_digit ds ≡ true) (number_on 0)
numbers = numerals_by_fold (λ ds. list_all is_digit ds ≡ true) digits_are number_on folds_digits

some_number : (ds : List ℕ) → 0 < length ds → list_all is_digit ds ≡ true → is_number ds ≡ true
some_number [] h e = absurd (omega arith)
some_number (d ∷ ds) h e = e

-- an ASCII character
abbrev plain : ℕ → Bool
plain c = nat_lt c 128

plain_scalar : (c : ℕ) → plain c ≡ true → scalar c ≡ true
plain_scalar c e =
    let l : nat_lt c 55296 ≡ true = grind (arith, nat_tests) in
    rw l refl

all_plain : (ds : List ℕ) → list_all plain ds ≡ true → (ds ≡ encode_utf8_all ds) × (scalars ds ≡ true)
unfolding encode
all_plain [] e = (refl, refl)
all_plain (d ∷ ds) e =
    let w = and_both (plain d) (list_all plain ds) e in
    let r = all_plain ds w.1 in
    (rw (w.0) (ap (λ z. d ∷ z) r.0), both_true (scalar d) (scalars ds) (plain_scalar d w.0) r.1)

digit_plain : (d : ℕ) → is_digit d ≡ true → plain d ≡ true
digit_plain d e =
    let w = and_both (nat_le 48 d) (nat_le d 57) e in
    let b : d ≤ 57 = grind (arith, nat_tests) in
    grind (arith, nat_tests)

number_apart : (ds us : List ℕ) → is_number ds ≡ true → begins_gap (ds ++ us) ≡ false
number_apart [] us e = absurd cc
number_apart (d ∷ ds) us e =
    let w = and_both (is_digit d) (list_all is_digit ds) e in
    first_apart d (ds ++ us) (digit_space d w.0) (no_slash is_digit refl d w.0)

number_again : (n : ℤ) (w : List ℕ) → Spells (kind.Number n) w → Respelled (kind.Number n)
number_again n w e =
    let m = number_on 0 w in
    let low : m < 2 ^ 64 = omega (arith, e.1) in
    let digits : list_all is_digit (decimal m) ≡ true = digits_decimal numbers m low in
    let value : number_on 0 (decimal m) ≡ m = digits_value-decimal numbers m low in
    let some : is_number (decimal m) ≡ true = some_number (decimal m) ((decimal_is_IsNumeral m low).0).0 digits in
    let ascii = all_plain (decimal m) (all_more is_digit plain digit_plain (decimal m) digits) in
    record {
      w = decimal m;
      spelled = (some, omega (arith, e.1, value), e.2 ∙ ap pos (sym value));
      text = ap signed_decimal e.2 ∙ ascii.0;
      scalar = ascii.1;
      apart = λ rest. number_apart (decimal m) (32 ∷ rest) some;
    }

-- signs
first_passes : (p : List ℕ → Bool) → p [] ≡ true → (r : Sign) (rows : List (Sign × List (List ℕ))) → list_all (λ (row : Sign × List (List ℕ)). p (first_of row.1)) rows ≡ true → p (first_spelling r rows) ≡ true
first_passes p e r [] h = e
first_passes p e r (row ∷ rows) h =
    let t = and_both (p (first_of row.1)) (list_all (λ (row : Sign × List (List ℕ)). p (first_of row.1)) rows) h in
    by_flag (same_sign row.0 r) (λ i. ap (λ z. p (cond z (first_of row.1) (first_spelling r rows))) i ∙ t.0) (λ i. ap (λ z. p (cond z (first_of row.1) (first_spelling r rows))) i ∙ first_passes p e r rows t.1)

texts_plain : list_all (λ (row : Sign × List (List ℕ)). list_all plain (first_of row.1)) signs ≡ true
unfolding signs
texts_plain = refl

text_plain : (r : Sign) → list_all plain (sign_text r) ≡ true
unfolding sign_text
text_plain r = first_passes (list_all plain) refl r signs texts_plain

-- empty, or neither white space nor a comment begins with it and a blank
abbrev solid : List ℕ → Bool
solid [] = true
solid (c ∷ cs) = not (begins_gap (c ∷ (cs ++ (32 ∷ []))))

texts_solid : list_all (λ (row : Sign × List (List ℕ)). solid (first_of row.1)) signs ≡ true
unfolding signs
texts_solid = refl

text_solid : (r : Sign) → solid (sign_text r) ≡ true
unfolding sign_text
text_solid r = first_passes solid refl r signs texts_solid

no_sign : sign_of [] ≡ None
unfolding signs sign_of
no_sign = refl

not_true : (c : Bool) → not c ≡ true → c ≡ false
not_true false e = refl
not_true true e = absurd cc

solid_apart : (w rest : List ℕ) (r : Sign) → sign_of w ≡ Some r → solid w ≡ true → begins_gap (w ++ (32 ∷ rest)) ≡ false
solid_apart [] rest r e h = let n : None ≡ Some r = sym no_sign ∙ e in absurd cc
solid_apart (c ∷ []) rest r e h = not_true (begins_gap (c ∷ 32 ∷ [])) h
solid_apart (c ∷ d ∷ cs) rest r e h = not_true (begins_gap (c ∷ d ∷ (cs ++ (32 ∷ [])))) h

sign_again : (r : Sign) → sign_of (sign_text r) ≡ Some r → Respelled (kind.Sign r)
sign_again r e =
    let p = all_plain (sign_text r) (text_plain r) in
    record { w = sign_text r; spelled = e; text = p.0; scalar = p.1; apart = λ rest. solid_apart (sign_text r) rest r e (text_solid r) }

-- a token of some text
again : ((r : Sign) → sign_of (sign_text r) ≡ Some r) → (k : TokenKind) (w rest : List ℕ) → IsToken k w rest → scalars w ≡ true → Respelled k
unfolding encode
again law (kind.Word x) w rest i h = record { w = w; spelled = i.spelled; text = (i.spelled).2; scalar = h; apart = λ us. word_apart w rest (32 ∷ us) (i.spelled).0 i.apart }
again law (kind.Primed x) w rest i h =
    let e = i.spelled in
    let t : x ++ codes "'" ≡ encode_utf8_all w = ap (λ z. z ++ codes "'") e.4 ∙ (sym (encodes-append e.0 (39 ∷ [])) ∙ ap encode_utf8_all (sym e.1)) in
    let g : begins_gap (e.0 ++ (39 ∷ rest)) ≡ false = ap begins_gap (sym (append_assoc e.0 (39 ∷ []) rest)) ∙ (ap (λ z. begins_gap (z ++ rest)) (sym e.1) ∙ i.apart) in
    record { w = w; spelled = e; text = t; scalar = h; apart = λ us. ap (λ z. begins_gap (z ++ (32 ∷ us))) e.1 ∙ (ap begins_gap (append_assoc e.0 (39 ∷ []) (32 ∷ us)) ∙ word_apart e.0 (39 ∷ rest) (39 ∷ 32 ∷ us) e.2 g) }
again law (kind.Label x) w rest i h =
    let e = i.spelled in
    record { w = w; spelled = e; text = ap (λ z. codes "@" ++ z) e.3 ∙ ap encode_utf8_all (sym e.1); scalar = h; apart = λ us. ap (λ z. begins_gap (z ++ (32 ∷ us))) e.1 ∙ first_apart 64 (e.0 ++ (32 ∷ us)) refl refl }
again law (kind.Number n) w rest i h = number_again n w i.spelled
again law (kind.Sign r) w rest i h = sign_again r (law r)

-- tokens of some text
abbrev pub Known : List Token → Type 0
Known [] = Unit {0}
Known (t ∷ ts) = Respelled t.kind × Known ts

known_pieces : ((r : Sign) → sign_of (sign_text r) ≡ Some r) → (ps : List Piece) (text rest : List ℕ) → Begins ps text rest → scalars text ≡ true → (at : ℕ) → Known (tokens_at at ps)
known_pieces law [] text rest b h at = tt
known_pieces law (blank c ∷ ps) text rest b h at =
    known_pieces law ps b.0 rest b.2 (scalars_parts (written (blank c)) b.0 (ap scalars (sym (b.1).front) ∙ h)).1 (at + size (written (blank c)))
known_pieces law (line body ∷ ps) text rest b h at =
    known_pieces law ps b.0 rest b.2 (scalars_parts (written (line body)) b.0 (ap scalars (sym (b.1).front) ∙ h)).1 (at + size (written (line body)))
known_pieces law (block body ∷ ps) text rest b h at =
    known_pieces law ps b.0 rest b.2 (scalars_parts (written (block body)) b.0 (ap scalars (sym (b.1).front) ∙ h)).1 (at + size (written (block body)))
known_pieces law (token k w ∷ ps) text rest b h at =
    let v = scalars_parts w b.0 (ap scalars (sym (b.1).front) ∙ h) in
    (again law k w b.0 (b.1).fits v.0, known_pieces law ps b.0 rest b.2 v.1 (at + size w))

pub known : ((r : Sign) → sign_of (sign_text r) ≡ Some r) → (ts : List Token) (text : List ℕ) → IsTokens ts text → Known ts
known law ts text h = subst Known (sym h.among) (known_pieces law h.pieces (chars text) [] h.whole (scalars-chars text h.utf8) 0)

pub known_drop : (n : ℕ) (ts : List Token) → Known ts → Known (drop n ts)
known_drop zero ts k = k
known_drop (suc n) [] k = tt
known_drop (suc n) (t ∷ ts) k = known_drop n ts k.1

pub known_take : (n : ℕ) (ts : List Token) → Known ts → Known (take n ts)
known_take zero ts k = tt
known_take (suc n) [] k = tt
known_take (suc n) (t ∷ ts) k = (k.0, known_take n ts k.1)

pieces_of : (ts : List Token) → Known ts → List Piece
pieces_of [] k = []
pieces_of (t ∷ ts) k = token t.kind (k.0).w ∷ blank 32 ∷ pieces_of ts k.1

chars_of : (ts : List Token) → Known ts → List ℕ
chars_of [] k = []
chars_of (t ∷ ts) k = (k.0).w ++ (32 ∷ chars_of ts k.1)

begins_all : (ts : List Token) (k : Known ts) → Begins (pieces_of ts k) (chars_of ts k) []
unfolding pieces_of chars_of
begins_all [] k = refl
begins_all (t ∷ ts) k =
    let rest = chars_of ts k.1 in
    (32 ∷ rest, record { front = refl; fits = parted_token t.kind (k.0).w rest (k.0).spelled ((k.0).apart rest) }, (rest, record { front = refl; fits = refl }, begins_all ts k.1))

kinds_all : (at : ℕ) (ts : List Token) (k : Known ts) → kinds (tokens_at at (pieces_of ts k)) ≡ kinds ts
unfolding pieces_of
kinds_all at [] k = refl
kinds_all at (t ∷ ts) k = ap (λ z. t.kind ∷ z) (kinds_all (at + size (k.0).w + size (written (blank 32))) ts k.1)

text_all : (ts : List Token) (k : Known ts) → text_of (kinds ts) ≡ encode_utf8_all (chars_of ts k)
unfolding chars_of encode
text_all [] k = refl
text_all (t ∷ ts) k =
    ap (λ z. (z ++ codes " ") ++ text_of (kinds ts)) (k.0).text
    ∙ (append_assoc (encode_utf8_all (k.0).w) (codes " ") (text_of (kinds ts)) ∙ (ap (λ z. encode_utf8_all (k.0).w ++ (32 ∷ z)) (text_all ts k.1) ∙ sym (encodes-append (k.0).w (32 ∷ chars_of ts k.1))))

scalars_all : (ts : List Token) (k : Known ts) → scalars (chars_of ts k) ≡ true
unfolding chars_of
scalars_all [] k = refl
scalars_all (t ∷ ts) k = scalars_both (k.0).w (32 ∷ chars_of ts k.1) ∙ both_true (scalars (k.0).w) (scalars (32 ∷ chars_of ts k.1)) (k.0).scalar (scalars_all ts k.1)

-- the text has these tokens
pub record Reread (ts : List Token) : Type 0 where
  pub tokens : List Token
  pub are : IsTokens tokens (text_of (kinds ts))
  pub alike : kinds tokens ≡ kinds ts

pub reread : (ts : List Token) → Known ts → Reread ts
reread ts k =
    let cs = chars_of ts k in
    let e = text_all ts k in
    let u : IsUtf8 (encode_utf8_all cs) = (cs, (scalars_all ts k, refl)) in
    let c : chars (encode_utf8_all cs) ≡ cs = chars-encodes cs (scalars_all ts k) in
    let whole : Begins (pieces_of ts k) (chars (encode_utf8_all cs)) [] = subst (λ z. Begins (pieces_of ts k) z []) (sym c) (begins_all ts k) in
    let all : IsTokens (tokens_at 0 (pieces_of ts k)) (encode_utf8_all cs) = record { utf8 = u; pieces = pieces_of ts k; whole = whole; among = refl } in
    record { tokens = tokens_at 0 (pieces_of ts k); are = subst (IsTokens (tokens_at 0 (pieces_of ts k))) (sym e) all; alike = kinds_all 0 ts k }
