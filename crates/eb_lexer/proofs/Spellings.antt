-- The spellings of the definition, and the token that a text writes as a function.
use Rattle.std.proofs.Common.{◌≡◌, ◌∙◌, ℕ, ◌≤◌, inl, inr, Bool, true, false, cond, ◌&&◌, ◌||◌, ◌==◌, List, [], ◌∷◌, ◌++◌, length, drop, refl, sym, ap, subst, arith, nat_le}
use Rattle.std.specs.Prelude.{take_while, Option, Some, None, pos}
use Rattle.std.specs.Option.{is_some, option_map}
use Rattle.std.specs.List.{list_all}
use Rattle.std.specs.Str.{encode_utf8_all}
use Rattle.std.proofs.lemmas.Bool.Decides.{nat_tests}
use Rattle.std.proofs.lemmas.List.{append-nil}
use Rattle.unicode_ident.proofs.Computing.{unicode_ident}
use Rattle.eb_signs.specs.declared.sign.Sign.{Sign}
use Rattle.eb_lexer.specs.declared.token.TokenKind.{TokenKind}
use Rattle.eb_lexer.specs.declared.token.TokenKind.TheVariants as kind
use Rattle.eb_signs.specs.Signs.{sign_of}
use Rattle.eb_lexer.specs.Tokens.{starts_word, continues_word, continues_label, is_digit, is_identifier, is_label_text, is_number, number_on, Spells, IsLexeme, IsToken, begins_gap}
use Rattle.eb_lexer.proofs.TokenOf.{number_token, label_token, word_token, token_of, is_lexeme}
use Rattle.eb_lexer.proofs.Bools.{or_true, not_either, both_true}
use Rattle.eb_lexer.proofs.Runs.{run_passes}
use Rattle.eb_lexer.proofs.SignLaws.{reserved_identifier, symbol_apart, no_empty_sign}
use Rattle.eb_lexer.proofs.TokenLaws.{IsLongest, run_parts, letter_no_digit, token_number, token_label, token_sign, word_reads, small_number}

-- ---- what is spelled so is read so

prime_stops : continues_word 39 ≡ false
unfolding continues_word unicode_ident
prime_stops = refl

at_starts_none : starts_word 64 ≡ false
unfolding starts_word unicode_ident
at_starts_none = refl

whole_word : (c : ℕ) (cs : List ℕ) → starts_word c ≡ true → list_all continues_word cs ≡ true → token_of (c ∷ cs) ≡ word_token (c ∷ cs) [] (sign_of (c ∷ cs))
whole_word c cs h all = ap (λ (z : List ℕ). token_of (c ∷ z)) (sym (append-nil cs)) ∙ word_reads c cs [] h all tt

word_spelled : (w name : List ℕ) → is_identifier w ≡ true → sign_of w ≡ None → name ≡ encode_utf8_all w → token_of w ≡ Some (kind.Word name)
word_spelled [] name h free e = absurd cc
word_spelled (c ∷ cs) name h free e =
    let parts = both_true (starts_word c) (list_all continues_word cs) h in
    whole_word c cs parts.0 parts.1 ∙ ap (word_token (c ∷ cs) []) free ∙ ap (λ (z : List ℕ). Some (kind.Word z)) (sym e)

primed_spelled : (v name : List ℕ) → is_identifier v ≡ true → sign_of v ≡ None → name ≡ encode_utf8_all v → token_of (v ++ 39 ∷ []) ≡ Some (kind.Primed name)
primed_spelled [] name h free e = absurd cc
primed_spelled (c ∷ cs) name h free e =
    let parts = both_true (starts_word c) (list_all continues_word cs) h in
    word_reads c cs (39 ∷ []) parts.0 parts.1 prime_stops ∙ ap (word_token (c ∷ cs) (39 ∷ [])) free ∙ ap (λ (z : List ℕ). Some (kind.Primed z)) (sym e)

label_spelled : (v name : List ℕ) → is_label_text v ≡ true → name ≡ encode_utf8_all v → token_of (64 ∷ v) ≡ Some (kind.Label name)
label_spelled [] name h e = absurd cc
label_spelled (x ∷ xs) name h e = token_label (x ∷ xs) at_starts_none ∙ rw h (ap (λ (z : List ℕ). Some (kind.Label z)) (sym e))

digit_no_word : (c : ℕ) (t : Bool) → starts_word c ≡ t → is_digit c ≡ true → starts_word c ≡ false
digit_no_word c false h d = h
digit_no_word c true h d = let f = letter_no_digit c h in absurd cc

number_spelled : (w : List ℕ) → is_number w ≡ true → number_on 0 w ≤ 4611686018427387904 → token_of w ≡ Some (kind.Number (pos (number_on 0 w)))
number_spelled [] h small = absurd cc
number_spelled (c ∷ cs) h small =
    let parts = both_true (is_digit c) (list_all is_digit cs) h in
    token_number c cs (digit_no_word c (starts_word c) refl parts.0) parts.0 ∙ small_number (c ∷ cs) h small

sign_spelled_at : (c : ℕ) (cs : List ℕ) (s : Sign) (t : Bool) → starts_word c ≡ t → sign_of (c ∷ cs) ≡ Some s → token_of (c ∷ cs) ≡ Some (kind.Sign s)
sign_spelled_at c cs s true h e =
    let parts = both_true (starts_word c) (list_all continues_word cs) (reserved_identifier c cs s h e) in
    whole_word c cs h parts.1 ∙ ap (word_token (c ∷ cs) []) e
sign_spelled_at c cs s false h e =
    let parts = not_either (is_digit c) (c == 64) (symbol_apart c cs s h e) in
    token_sign c cs h parts.0 parts.1 ∙ ap (option_map kind.Sign) e

sign_spelled : (w : List ℕ) (s : Sign) → sign_of w ≡ Some s → token_of w ≡ Some (kind.Sign s)
sign_spelled [] s e = let free = no_empty_sign in absurd cc
sign_spelled (c ∷ cs) s e = sign_spelled_at c cs s (starts_word c) refl e

pub token_is : (k : TokenKind) (w : List ℕ) → Spells k w → token_of w ≡ Some k
token_is (kind.Word name) w h = word_spelled w name h.0 h.1 h.2
token_is (kind.Primed name) w h = ap token_of h.1 ∙ primed_spelled h.0 name h.2 h.3 h.4
token_is (kind.Label name) w h = ap token_of h.1 ∙ label_spelled h.0 name h.2 h.3
token_is (kind.Number n) w h = number_spelled w h.0 h.1 ∙ ap (λ z. Some (kind.Number z)) (sym h.2)
token_is (kind.Sign s) w h = sign_spelled w s h

-- ---- what is read so is spelled so

same_kind : (k l : TokenKind) (w : List ℕ) → Some k ≡ Some l → Spells k w → Spells l w
same_kind k l w e h = let same : k ≡ l = cc in subst (λ (z : TokenKind). Spells z w) same h

prime_spells : (c : ℕ) (w : List ℕ) (q : ℕ) (k : TokenKind) (t : Bool) → starts_word c ≡ true → list_all continues_word w ≡ true → sign_of (c ∷ w) ≡ None → (q == 39) ≡ t
    → cond t (Some (kind.Primed (encode_utf8_all (c ∷ w)))) None ≡ Some k → Spells k (c ∷ (w ++ q ∷ []))
prime_spells c w q k false h all free p e = absurd cc
prime_spells c w q k true h all free p e =
    let same : q ≡ 39 = grind (arith, nat_tests) in
    same_kind (kind.Primed (encode_utf8_all (c ∷ w))) k (c ∷ (w ++ q ∷ [])) e
    (c ∷ w, ap (λ (z : ℕ). c ∷ (w ++ z ∷ [])) same, rw h all, free, refl)

word_spells : (c : ℕ) (w rest : List ℕ) (o : Option Sign) (k : TokenKind) → starts_word c ≡ true → list_all continues_word w ≡ true → sign_of (c ∷ w) ≡ o
    → word_token (c ∷ w) rest o ≡ Some k → Spells k (c ∷ (w ++ rest))
word_spells c w [] (Some s) k h all free e = same_kind (kind.Sign s) k (c ∷ (w ++ [])) e (ap (λ (z : List ℕ). sign_of (c ∷ z)) (append-nil w) ∙ free)
word_spells c w [] None k h all free e =
    same_kind (kind.Word (encode_utf8_all (c ∷ w))) k (c ∷ (w ++ [])) e
    (subst (λ (z : List ℕ). Spells (kind.Word (encode_utf8_all (c ∷ w))) (c ∷ z)) (sym (append-nil w)) (rw h all, free, refl))
word_spells c w (q ∷ []) (Some s) k h all free e = absurd cc
word_spells c w (q ∷ []) None k h all free e = prime_spells c w q k (q == 39) h all free refl e
word_spells c w (q ∷ r ∷ rs) (Some s) k h all free e = absurd cc
word_spells c w (q ∷ r ∷ rs) None k h all free e = absurd cc

number_spells : (w : List ℕ) (k : TokenKind) (t : Bool) → (is_number w && nat_le (number_on 0 w) 4611686018427387904) ≡ t → cond t (Some (kind.Number (pos (number_on 0 w)))) None ≡ Some k → Spells k w
number_spells w k false h e = absurd cc
number_spells w k true h e =
    let parts = both_true (is_number w) (nat_le (number_on 0 w) 4611686018427387904) h in
    let small : number_on 0 w ≤ 4611686018427387904 = grind (arith, nat_tests) in
    same_kind (kind.Number (pos (number_on 0 w))) k w e (parts.0, small, refl)

label_spells_at : (x : ℕ) (xs : List ℕ) (k : TokenKind) (t : Bool) → list_all continues_label (x ∷ xs) ≡ t → cond t (Some (kind.Label (encode_utf8_all (x ∷ xs)))) None ≡ Some k → Spells k (64 ∷ x ∷ xs)
label_spells_at x xs k false h e = absurd cc
label_spells_at x xs k true h e = same_kind (kind.Label (encode_utf8_all (x ∷ xs))) k (64 ∷ x ∷ xs) e (x ∷ xs, refl, h, refl)

label_spells : (v : List ℕ) (k : TokenKind) → label_token v ≡ Some k → Spells k (64 ∷ v)
label_spells [] k e = absurd cc
label_spells (x ∷ xs) k e = label_spells_at x xs k (list_all continues_label (x ∷ xs)) refl e

sign_spells : (w : List ℕ) (o : Option Sign) (k : TokenKind) → sign_of w ≡ o → option_map kind.Sign o ≡ Some k → Spells k w
sign_spells w None k h e = absurd cc
sign_spells w (Some s) k h e = same_kind (kind.Sign s) k w e h

spells_at : (c : ℕ) (cs : List ℕ) (k : TokenKind) (s d a : Bool) → starts_word c ≡ s → is_digit c ≡ d → (c == 64) ≡ a
    → cond s (word_token (c ∷ take_while continues_word cs) (drop (length (take_while continues_word cs)) cs) (sign_of (c ∷ take_while continues_word cs)))
    (cond d (number_token (c ∷ cs)) (cond a (label_token cs) (option_map kind.Sign (sign_of (c ∷ cs))))) ≡ Some k
    → Spells k (c ∷ cs)
spells_at c cs k true d a hs hd ha e =
    let w : List ℕ = take_while continues_word cs in
    let rest : List ℕ = drop (length w) cs in
    subst (λ (z : List ℕ). Spells k (c ∷ z)) (sym (run_parts continues_word cs))
    (word_spells c w rest (sign_of (c ∷ w)) k hs (run_passes continues_word cs) refl e)
spells_at c cs k false true a hs hd ha e = number_spells (c ∷ cs) k (is_number (c ∷ cs) && nat_le (number_on 0 (c ∷ cs)) 4611686018427387904) refl e
spells_at c cs k false false true hs hd ha e =
    let same : c ≡ 64 = grind (arith, nat_tests) in
    subst (λ (z : ℕ). Spells k (z ∷ cs)) (sym same) (label_spells cs k e)
spells_at c cs k false false false hs hd ha e = sign_spells (c ∷ cs) (sign_of (c ∷ cs)) k refl e

pub spells_it : (k : TokenKind) (w : List ℕ) → token_of w ≡ Some k → Spells k w
spells_it k [] e = absurd cc
spells_it k (c ∷ cs) e = spells_at c cs k (starts_word c) (is_digit c) (c == 64) refl refl refl e

-- ---- lexemes

some_is : (w : List ℕ) (o : Option TokenKind) → token_of w ≡ o → (is_some o || is_number w) ≡ true → IsLexeme w
some_is w (Some k) h e = inl (k, spells_it k w h)
some_is w None h e = inr e

lexeme_is : (w : List ℕ) → IsLexeme w → is_lexeme w ≡ true
lexeme_is w (inl h) = ap (λ (o : Option TokenKind). is_some o || is_number w) (token_is h.0 w h.1)
lexeme_is w (inr n) = ap (λ (b : Bool). is_some (token_of w) || b) n ∙ or_true (is_some (token_of w))

not_lexeme : (w : List ℕ) (t : Bool) → is_lexeme w ≡ t → (IsLexeme w → ⊥) → is_lexeme w ≡ false
not_lexeme w false h f = h
not_lexeme w true h f = absurd (f (some_is w (token_of w) refl h))

no_lexeme : (w : List ℕ) → is_lexeme w ≡ false → IsLexeme w → ⊥
no_lexeme w e h = let f = lexeme_is w h in cc

pub longest_of : (k : TokenKind) (w rest : List ℕ) → IsToken k w rest → IsLongest k w rest
longest_of k w rest h = record {
  spelled = token_is k w h.spelled;
  longest = λ longer after e l. not_lexeme longer (is_lexeme longer) refl (h.longest longer after e l);
}

pub token_from : (k : TokenKind) (w rest : List ℕ) → IsLongest k w rest → begins_gap (w ++ rest) ≡ false → IsToken k w rest
token_from k w rest h g = record {
  spelled = spells_it k w h.spelled;
  apart = g;
  longest = λ longer after e l. no_lexeme longer (h.longest longer after e l);
}

-- no token is written with nothing
pub none_spelled : (k : TokenKind) (rest : List ℕ) → IsToken k [] rest → ⊥
none_spelled k rest h = let f = token_is k [] h.spelled in cc
