-- Identifiers have plain names: their ASCII characters are letters, digits and `_`, and the others have no ASCII byte.
use Rattle.std.proofs.Common.{◌≡◌, ℕ, ◌+◌, ◌/◌, ◌%◌, ◌<◌, Bool, true, false, cond, not, ◌&&◌, ◌||◌, ◌==◌, nat_le, List, [], ◌∷◌, ◌++◌, refl, arith, ltb}
use Rattle.std.specs.List.{list_all}
use Rattle.std.specs.Char.{is_ascii_alphabetic, is_ascii_alphanumeric, encode_utf8}
use Rattle.std.specs.Str.{encode_utf8_all}
use Rattle.std.proofs.lemmas.Bool.Decides.{nat_tests}
use Rattle.std.proofs.lemmas.Str.{encode_ascii}
use Rattle.unicode_ident.specs.Ident.{is_xid_start, is_xid_continue}
use Rattle.unicode_ident.proofs.IdentLemmas.{is_xid_start-ascii, is_xid_continue-ascii}
use Rattle.eb_lexer.specs.Tokens.{starts_word, continues_word, is_sign_letter, is_identifier}
use Rattle.carrier_names.specs.Plain.{begins_name, is_name_byte, is_plain_name}
use Rattle.carrier_names.proofs.Tests.{both_true, are_true, or_right, all_weaker, all_joined}

-- ---- bytes of characters that aren't ASCII

high_continues : (b : ℕ) → nat_le 128 b ≡ true → is_name_byte b ≡ true
high_continues b h = or_right (is_ascii_alphanumeric b) ((b == 95) || nat_le 128 b) (or_right (b == 95) (nat_le 128 b) h)

high_begins : (b : ℕ) → nat_le 128 b ≡ true → begins_name b ≡ true
high_begins b h = or_right (is_ascii_alphabetic b) ((b == 95) || nat_le 128 b) (or_right (b == 95) (nat_le 128 b) h)

above : (a b : ℕ) → nat_le 128 a ≡ true → nat_le 128 (a + b) ≡ true
above a b h = grind (arith, nat_tests)

-- one or more bytes, none of which is ASCII
abbrev is_high : List ℕ → Bool
is_high [] = false
is_high (b ∷ bs) = list_all (nat_le 128) (b ∷ bs)

high_more : (a b : ℕ) (bs : List ℕ) → nat_le 128 a ≡ true → list_all (nat_le 128) bs ≡ true → list_all (nat_le 128) ((a + b) ∷ bs) ≡ true
high_more a b bs h g = are_true (nat_le 128 (a + b)) (list_all (nat_le 128) bs) (above a b h) g

high_chosen : (t u : Bool) (a b c d e f g h i : ℕ)
    → is_high (cond t ((192 + a) ∷ (128 + b) ∷ []) (cond u ((224 + c) ∷ (128 + d) ∷ (128 + e) ∷ []) ((240 + f) ∷ (128 + g) ∷ (128 + h) ∷ (128 + i) ∷ []))) ≡ true
high_chosen true u a b c d e f g h i = high_more 192 a ((128 + b) ∷ []) refl (high_more 128 b [] refl refl)
high_chosen false true a b c d e f g h i = high_more 224 c ((128 + d) ∷ (128 + e) ∷ []) refl (high_more 128 d ((128 + e) ∷ []) refl (high_more 128 e [] refl refl))
high_chosen false false a b c d e f g h i =
    high_more 240 f ((128 + g) ∷ (128 + h) ∷ (128 + i) ∷ []) refl (high_more 128 g ((128 + h) ∷ (128 + i) ∷ []) refl (high_more 128 h ((128 + i) ∷ []) refl (high_more 128 i [] refl refl)))

other_chosen : (t : Bool) (l m : List ℕ) → t ≡ false → is_high m ≡ true → is_high (cond t l m) ≡ true
other_chosen true l m e h = absurd cc
other_chosen false l m e h = h

high_encoded : (c : ℕ) → ltb c 128 ≡ false → is_high (encode_utf8 c) ≡ true
unfolding encode_utf8
high_encoded c l =
    other_chosen (ltb c 128) (c ∷ [])
    (cond (ltb c 2048) ((192 + c / 64) ∷ (128 + c % 64) ∷ []) (cond (ltb c 65536) ((224 + c / 4096) ∷ (128 + c / 64 % 64) ∷ (128 + c % 64) ∷ []) ((240 + c / 262144) ∷ (128 + c / 4096 % 64) ∷ (128 + c / 64 % 64) ∷ (128 + c % 64) ∷ [])))
    l (high_chosen (ltb c 2048) (ltb c 65536) (c / 64) (c % 64) (c / 4096) (c / 64 % 64) (c % 64) (c / 262144) (c / 4096 % 64) (c / 64 % 64) (c % 64))

high_front : (bs rest : List ℕ) → is_high bs ≡ true → list_all is_name_byte rest ≡ true → is_plain_name (bs ++ rest) ≡ true
high_front [] rest h g = absurd cc
high_front (b ∷ bs) rest h g =
    let parts = both_true (nat_le 128 b) (list_all (nat_le 128) bs) h in
    are_true (begins_name b) (list_all is_name_byte (bs ++ rest)) (high_begins b parts.0)
    (all_joined is_name_byte bs rest (all_weaker (nat_le 128) is_name_byte high_continues bs parts.1) g)

high_all : (bs : List ℕ) → is_high bs ≡ true → list_all is_name_byte bs ≡ true
high_all [] h = absurd cc
high_all (b ∷ bs) h = all_weaker (nat_le 128) is_name_byte high_continues (b ∷ bs) h

-- ---- characters of identifiers

ascii_begins : (c : ℕ) (s n : Bool) → s ≡ is_ascii_alphabetic c → ((c == 95) || s) && n ≡ true → begins_name c ≡ true
ascii_begins c s n e h = grind arith

word_begins : (c : ℕ) → c < 128 → starts_word c ≡ true → begins_name c ≡ true
unfolding starts_word
word_begins c l h = ascii_begins c (is_xid_start c) (not (is_sign_letter c)) (is_xid_start-ascii c l) h

ascii_continues : (c : ℕ) (s n : Bool) → s ≡ (is_ascii_alphanumeric c || (c == 95)) → s && n ≡ true → is_name_byte c ≡ true
ascii_continues c s n e h = grind arith

word_continues : (c : ℕ) → c < 128 → continues_word c ≡ true → is_name_byte c ≡ true
unfolding continues_word
word_continues c l h = ascii_continues c (is_xid_continue c) (not (is_sign_letter c)) (is_xid_continue-ascii c l) h

continued : (c : ℕ) (t : Bool) → ltb c 128 ≡ t → continues_word c ≡ true → list_all is_name_byte (encode_utf8 c) ≡ true
continued c true e h =
    let small : c < 128 = grind (arith, nat_tests) in
    rw (encode_ascii c small) (are_true (is_name_byte c) true (word_continues c small h) refl)
continued c false e h = high_all (encode_utf8 c) (high_encoded c e)

all_continued : (cs : List ℕ) → list_all continues_word cs ≡ true → list_all is_name_byte (encode_utf8_all cs) ≡ true
all_continued [] h = refl
all_continued (c ∷ cs) h =
    let parts = both_true (continues_word c) (list_all continues_word cs) h in
    all_joined is_name_byte (encode_utf8 c) (encode_utf8_all cs) (continued c (ltb c 128) refl parts.0) (all_continued cs parts.1)

begun : (c : ℕ) (rest : List ℕ) (t : Bool) → ltb c 128 ≡ t → starts_word c ≡ true → list_all is_name_byte rest ≡ true → is_plain_name (encode_utf8 c ++ rest) ≡ true
begun c rest true e h g =
    let small : c < 128 = grind (arith, nat_tests) in
    rw (encode_ascii c small) (are_true (begins_name c) (list_all is_name_byte rest) (word_begins c small h) g)
begun c rest false e h g = high_front (encode_utf8 c) rest (high_encoded c e) g

-- an identifier's bytes are a plain name
pub identifier_plain : (w : List ℕ) → is_identifier w ≡ true → is_plain_name (encode_utf8_all w) ≡ true
identifier_plain [] h = absurd cc
identifier_plain (c ∷ cs) h =
    let parts = both_true (starts_word c) (list_all continues_word cs) h in
    begun c (encode_utf8_all cs) (ltb c 128) refl parts.0 (all_continued cs parts.1)
