-- The token that is found at the front is the longest one, and where none is found there is none.
use Rattle.std.proofs.Common.{◌≡◌, ◌∙◌, ℕ, suc, ◌+◌, ◌≤◌, ◌<◌, Bool, true, false, cond, not, ◌&&◌, ◌||◌, ◌==◌, List, [], ◌∷◌, ◌++◌, length, take, drop, refl, sym, ap, subst, append_assoc, arith, nat_le}
use Rattle.std.specs.Prelude.{take_while, Option, Some, None, ℤ, pos}
use Rattle.std.specs.Option.{is_some, option_map}
use Rattle.std.specs.List.{list_all}
use Rattle.std.specs.Str.{encode_utf8_all}
use Rattle.std.specs.Char.{is_ascii_alphabetic}
use Rattle.std.proofs.lemmas.Bool.Decides.{nat_tests}
use Rattle.std.proofs.lemmas.List.{take_at, drop_at, take-append-drop, length-append, length-take-le, append-nil}
use Rattle.std.proofs.lemmas.List.Sums.{take_while-cons}
use Rattle.unicode_ident.specs.Ident.{is_xid_start}
use Rattle.unicode_ident.proofs.IdentLemmas.{is_xid_start-ascii}
use Rattle.eb_signs.specs.declared.sign.Sign.{Sign}
use Rattle.eb_lexer.specs.declared.token.TokenKind.{TokenKind}
use Rattle.eb_lexer.specs.declared.token.TokenKind.TheVariants as kind
use Rattle.eb_signs.specs.Signs.{sign_of, reserved}
use Rattle.eb_lexer.specs.Tokens.{starts_word, continues_word, continues_label, is_digit, is_number, is_sign_letter, number_on}
use Rattle.eb_lexer.proofs.TokenOf.{is_lexeme, number_token, label_token, word_token, token_of}
use Rattle.eb_lexer.specs.steps.Lexing.{token_at, word_at, word_step, number_at, number_of, label_at, sign_at}
use Rattle.eb_lexer.proofs.Numbers.{number_of-large, number_of-small}
use Rattle.eb_lexer.proofs.Bools.{is_same, and_false, or_true}
use Rattle.eb_lexer.proofs.Runs.{Stops, take_run, run_passes, run_exact}
use Rattle.eb_lexer.proofs.SignLaws.{reserved_is, IsLongestSign, sign_found, sign_none}

-- ---- a run and what follows it

pub split_long : (w v rest after : List ℕ) → w ++ rest ≡ v ++ after → length w ≤ length v → (u : List ℕ) × (v ≡ w ++ u) × (rest ≡ u ++ after)
split_long [] v rest after e l = (v, refl, e)
split_long (x ∷ xs) [] rest after e l = absurd (omega arith)
split_long (x ∷ xs) (y ∷ ys) rest after e l =
    let same : x ≡ y = cc in
    let more : xs ++ rest ≡ ys ++ after = cc in
    let s = split_long xs ys rest after more (omega arith) in
    (s.0, rw same (ap (λ (z : List ℕ). y ∷ z) s.1), s.2)

-- where a run ends, a part of what follows it ends it too
stops_part : (p : ℕ → Bool) (u after rest : List ℕ) → rest ≡ u ++ after → Stops p rest → Stops p u
stops_part p [] after rest e h = tt
stops_part p (x ∷ xs) after rest e h = let g : Stops p (x ∷ (xs ++ after)) = subst (Stops p) e h in g

run_stops_at : (p : ℕ → Bool) (x : ℕ) (xs : List ℕ) (t : Bool) → p x ≡ t → Stops p (drop (length (take_while p xs)) xs) → Stops p (drop (length (cond t (x ∷ take_while p xs) [])) (x ∷ xs))
run_stops_at p x xs true e h = h
run_stops_at p x xs false e h = e

-- the longest run is followed by what ends it
pub run_stops : (p : ℕ → Bool) (t : List ℕ) → Stops p (drop (length (take_while p t)) t)
run_stops p [] = tt
run_stops p (x ∷ xs) = rw (take_while-cons p x xs) (run_stops_at p x xs (p x) refl (run_stops p xs))

pub run_parts : (p : ℕ → Bool) (t : List ℕ) → t ≡ take_while p t ++ drop (length (take_while p t)) t
run_parts p t = sym (take-append-drop (length (take_while p t)) t) ∙ ap (λ (z : List ℕ). z ++ drop (length (take_while p t)) t) (take_run p t)

-- ---- what is found

-- these characters write the token, and no longer lexeme does
pub record IsLongest (k : TokenKind) (w rest : List ℕ) : Type 0 where
  pub spelled : token_of w ≡ Some k
  pub longest : (longer after : List ℕ) → w ++ rest ≡ longer ++ after → length w < length longer → is_lexeme longer ≡ false

pub record Found (x : TokenKind × ℕ) (text : List ℕ) : Type 0 where
  pub w : List ℕ
  pub rest : List ℕ
  pub parts : text ≡ w ++ rest
  pub count : length w ≡ x.1
  pub some : 0 < length w
  pub first : IsLongest x.0 w rest

pub record NoneFound (text : List ℕ) : Type 0 where
  pub none : (k : TokenKind) (w rest : List ℕ) → text ≡ w ++ rest → IsLongest k w rest → ⊥

same_found : (x y : TokenKind × ℕ) (text : List ℕ) → x ≡ y → Found x text → Found y text
same_found x y text e h = subst (λ (z : TokenKind × ℕ). Found z text) e h

-- ---- which case a first character is

no_letter : (c : ℕ) → is_digit c ≡ true → is_ascii_alphabetic c ≡ false
no_letter c e = grind (arith, nat_tests)

digit_case : (c : ℕ) (t : Bool) → is_digit c ≡ t → (((c == 95) || is_xid_start c) && not (is_sign_letter c)) ≡ true → is_digit c ≡ false
digit_case c false e h = e
digit_case c true e h =
    let low : c < 128 = grind (arith, nat_tests) in
    let x : is_xid_start c ≡ false = is_xid_start-ascii c low ∙ no_letter c e in
    let d : (c == 95) ≡ false = grind (arith, nat_tests) in
    absurd (let f = rw (d, x) at h in cc)

pub letter_no_digit : (c : ℕ) → starts_word c ≡ true → is_digit c ≡ false
unfolding starts_word
letter_no_digit c h = digit_case c (is_digit c) refl h

pub token_word : (c : ℕ) (cs : List ℕ) → starts_word c ≡ true → token_of (c ∷ cs) ≡ word_token (c ∷ take_while continues_word cs) (drop (length (take_while continues_word cs)) cs) (sign_of (c ∷ take_while continues_word cs))
token_word c cs h = rw h refl

pub token_number : (c : ℕ) (cs : List ℕ) → starts_word c ≡ false → is_digit c ≡ true → token_of (c ∷ cs) ≡ number_token (c ∷ cs)
token_number c cs h d = rw (h, d) refl

pub token_label : (cs : List ℕ) → starts_word 64 ≡ false → token_of (64 ∷ cs) ≡ label_token cs
token_label cs h = rw h refl

pub token_sign : (c : ℕ) (cs : List ℕ) → starts_word c ≡ false → is_digit c ≡ false → (c == 64) ≡ false → token_of (c ∷ cs) ≡ option_map kind.Sign (sign_of (c ∷ cs))
token_sign c cs h d a = rw (h, d, a) refl

-- no lexeme
no_lexeme : (w : List ℕ) → token_of w ≡ None → is_number w ≡ false → is_lexeme w ≡ false
no_lexeme w e n = rw (e, n) refl

-- ---- words

pub number_head : (c : ℕ) (cs : List ℕ) → is_digit c ≡ false → is_number (c ∷ cs) ≡ false
number_head c cs h = rw h refl

-- a word and more behind it
pub word_reads : (c : ℕ) (w u : List ℕ) → starts_word c ≡ true → list_all continues_word w ≡ true → Stops continues_word u → token_of (c ∷ (w ++ u)) ≡ word_token (c ∷ w) u (sign_of (c ∷ w))
word_reads c w u h all stops =
    let run : take_while continues_word (w ++ u) ≡ w = run_exact continues_word w u all stops in
    token_word c (w ++ u) h ∙ rw (run, drop_at w u (length w) refl) refl

-- what follows the word in a longer lexeme
word_longer : (c : ℕ) (w rest : List ℕ) → starts_word c ≡ true → list_all continues_word w ≡ true → Stops continues_word rest → (v : List ℕ)
    → ((u after : List ℕ) → rest ≡ u ++ after → length v < suc (length w) + length u → word_token (c ∷ w) u (sign_of (c ∷ w)) ≡ None)
    → length (c ∷ w) ≤ length v → (longer after : List ℕ) → c ∷ (w ++ rest) ≡ longer ++ after → length v < length longer → is_lexeme longer ≡ false
word_longer c w rest h all stops v f fits longer after e l =
    let s = split_long (c ∷ w) longer rest after e (omega arith) in
    let u : List ℕ = s.0 in
    let some : token_of (c ∷ (w ++ u)) ≡ None = word_reads c w u h all (stops_part continues_word u after rest s.2 stops)
    ∙ f u after s.2 (omega (arith, ap length s.1, length-append w u)) in
    rw s.1 (no_lexeme (c ∷ (w ++ u)) some (number_head c (w ++ u) (letter_no_digit c h)))

sign_alone : (w u : List ℕ) (s : Sign) → 0 < length u → word_token w u (Some s) ≡ None
sign_alone w [] s h = absurd (omega arith)
sign_alone w (x ∷ []) s h = refl
sign_alone w (x ∷ y ∷ ys) s h = refl

prime_alone : (w u : List ℕ) → 1 < length u → word_token w u None ≡ None
prime_alone w [] h = absurd (omega arith)
prime_alone w (x ∷ []) h = absurd (omega arith)
prime_alone w (x ∷ y ∷ ys) h = refl

no_prime : (w u after : List ℕ) (q : ℕ) (qs : List ℕ) → (q == 39) ≡ false → q ∷ qs ≡ u ++ after → 0 < length u → word_token w u None ≡ None
no_prime w [] after q qs n e h = absurd (omega arith)
no_prime w (x ∷ []) after q qs n e h = let same : x ≡ q = cc in rw (same, n) refl
no_prime w (x ∷ y ∷ ys) after q qs n e h = refl

prime_found : (c : ℕ) (w : List ℕ) (q : ℕ) (qs : List ℕ) (t : Bool) → starts_word c ≡ true → list_all continues_word w ≡ true → Stops continues_word (q ∷ qs) → sign_of (c ∷ w) ≡ None → (q == 39) ≡ t
    → Found (cond t (kind.Primed (encode_utf8_all (c ∷ w)), length (c ∷ w) + 1) (kind.Word (encode_utf8_all (c ∷ w)), length (c ∷ w))) (c ∷ (w ++ q ∷ qs))
prime_found c w q qs true h all stops e p = record {
  w = c ∷ (w ++ q ∷ []);
  rest = qs;
  parts = ap (λ (z : List ℕ). c ∷ z) (sym (append_assoc w (q ∷ []) qs));
  count = omega (arith, length-append w (q ∷ []));
  some = omega arith;
  first = record {
    spelled = word_reads c w (q ∷ []) h all stops ∙ ap (word_token (c ∷ w) (q ∷ [])) e ∙ rw p refl;
    longest = λ longer after d l. word_longer c w (q ∷ qs) h all stops (c ∷ (w ++ q ∷ []))
        (λ u rest k m. ap (word_token (c ∷ w) u) e ∙ prime_alone (c ∷ w) u (omega (arith, length-append w (q ∷ [])))) (omega (arith, length-append w (q ∷ [])))
        longer after (ap (λ (z : List ℕ). c ∷ z) (sym (append_assoc w (q ∷ []) qs)) ∙ d) l;
  };
}
prime_found c w q qs false h all stops e p = record {
  w = c ∷ w;
  rest = q ∷ qs;
  parts = refl;
  count = refl;
  some = omega arith;
  first = record {
    spelled = ap token_of (ap (λ (z : List ℕ). c ∷ z) (sym (append-nil w))) ∙ word_reads c w [] h all tt ∙ ap (word_token (c ∷ w) []) e;
    longest = word_longer c w (q ∷ qs) h all stops (c ∷ w)
        (λ u after d l. ap (word_token (c ∷ w) u) e ∙ no_prime (c ∷ w) u after q qs p d (omega arith)) (omega arith);
  };
}

-- the word with what follows it
word_found : (c : ℕ) (w rest : List ℕ) (o : Option Sign) → starts_word c ≡ true → list_all continues_word w ≡ true → Stops continues_word rest → sign_of (c ∷ w) ≡ o
    → Found (word_step (c ∷ w) (length (c ∷ w)) rest o) (c ∷ (w ++ rest))
word_found c w rest (Some s) h all stops e = record {
  w = c ∷ w;
  rest = rest;
  parts = refl;
  count = refl;
  some = omega arith;
  first = record {
    spelled = ap token_of (ap (λ (z : List ℕ). c ∷ z) (sym (append-nil w))) ∙ word_reads c w [] h all tt ∙ ap (word_token (c ∷ w) []) e;
    longest = word_longer c w rest h all stops (c ∷ w) (λ u after p l. ap (word_token (c ∷ w) u) e ∙ sign_alone (c ∷ w) u s (omega arith)) (omega arith);
  };
}
word_found c w [] None h all stops e = record {
  w = c ∷ w;
  rest = [];
  parts = refl;
  count = refl;
  some = omega arith;
  first = record {
    spelled = ap token_of (ap (λ (z : List ℕ). c ∷ z) (sym (append-nil w))) ∙ word_reads c w [] h all tt ∙ ap (word_token (c ∷ w) []) e;
    longest = word_longer c w [] h all stops (c ∷ w) (λ u after p l. absurd (omega (arith, ap length p, length-append u after))) (omega arith);
  };
}
word_found c w (q ∷ qs) None h all stops e = prime_found c w q qs (q == 39) h all stops e refl

word_at_is : (c : ℕ) (cs : List ℕ) → word_at (c ∷ cs) ≡ word_step (c ∷ take_while continues_word cs) (length (c ∷ take_while continues_word cs)) (drop (length (take_while continues_word cs)) cs) (reserved (encode_utf8_all (c ∷ take_while continues_word cs)))
unfolding word_at
word_at_is c cs =
    let n : ℕ = length (take_while continues_word cs) in
    let e : 1 + n ≡ suc n = omega arith in
    ap (λ (m : ℕ). word_step (take m (c ∷ cs)) m (drop m (c ∷ cs)) (reserved (encode_utf8_all (take m (c ∷ cs))))) e
    ∙ ap (λ (z : List ℕ). word_step (c ∷ z) (suc n) (drop n cs) (reserved (encode_utf8_all (c ∷ z)))) (take_run continues_word cs)

word_first : (c : ℕ) (cs : List ℕ) → starts_word c ≡ true → Found (word_at (c ∷ cs)) (c ∷ cs)
word_first c cs h =
    let w : List ℕ = take_while continues_word cs in
    let rest : List ℕ = drop (length w) cs in
    let found : Found (word_step (c ∷ w) (length (c ∷ w)) rest (sign_of (c ∷ w))) (c ∷ (w ++ rest)) =
    word_found c w rest (sign_of (c ∷ w)) h (run_passes continues_word cs) (run_stops continues_word cs) refl in
    let whole : c ∷ (w ++ rest) ≡ c ∷ cs = ap (λ (z : List ℕ). c ∷ z) (sym (run_parts continues_word cs)) in
    same_found (word_step (c ∷ w) (length (c ∷ w)) rest (sign_of (c ∷ w))) (word_at (c ∷ cs)) (c ∷ cs)
    (sym (word_at_is c cs ∙ ap (word_step (c ∷ w) (length (c ∷ w)) rest) (reserved_is c w h)))
    (subst (λ (z : List ℕ). Found (word_step (c ∷ w) (length (c ∷ w)) rest (sign_of (c ∷ w))) z) whole found)

-- ---- numbers

fails_after : (p : ℕ → Bool) (w u : List ℕ) → 0 < length u → Stops p u → list_all p (w ++ u) ≡ false
fails_after p w [] l stops = absurd (omega arith)
fails_after p [] (x ∷ xs) l stops = rw stops refl
fails_after p (y ∷ ys) (x ∷ xs) l stops = rw (fails_after p ys (x ∷ xs) l stops) (and_false (p y))

not_number : (ds : List ℕ) → is_number ds ≡ false → number_token ds ≡ None
not_number ds h = rw h refl

digits_longer : (c : ℕ) (w u : List ℕ) → starts_word c ≡ false → is_digit c ≡ true → 0 < length u → Stops is_digit u → (token_of (c ∷ (w ++ u)) ≡ None) × (is_number (c ∷ (w ++ u)) ≡ false)
digits_longer c w u h d l stops =
    let fails : is_number (c ∷ (w ++ u)) ≡ false = fails_after is_digit (c ∷ w) u l stops in
    (token_number c (w ++ u) h d ∙ not_number (c ∷ (w ++ u)) fails, fails)

number_lexeme : (w : List ℕ) → is_number w ≡ true → is_lexeme w ≡ true
number_lexeme w n = ap (λ (b : Bool). is_some (token_of w) || b) n ∙ or_true (is_some (token_of w))

number_longest : (c : ℕ) (w rest : List ℕ) → starts_word c ≡ false → is_digit c ≡ true → Stops is_digit rest
    → (longer after : List ℕ) → c ∷ (w ++ rest) ≡ longer ++ after → length (c ∷ w) < length longer → is_lexeme longer ≡ false
number_longest c w rest h d stops longer after e l =
    let s = split_long (c ∷ w) longer rest after e (omega arith) in
    let u : List ℕ = s.0 in
    let none = digits_longer c w u h d (omega (arith, ap length s.1, length-append w u)) (stops_part is_digit u after rest s.2 stops) in
    rw s.1 (no_lexeme (c ∷ (w ++ u)) none.0 none.1)

abbrev number_result : List ℕ → Option ℤ → Option (TokenKind × ℕ)
number_result ds o = option_map (λ v. (kind.Number v, length ds)) o

number_at_is : (c : ℕ) (cs : List ℕ) → is_digit c ≡ true → number_at (c ∷ cs) ≡ number_result (c ∷ take_while is_digit cs) (number_of (c ∷ take_while is_digit cs))
unfolding number_at
number_at_is c cs d =
    let run : take_while is_digit (c ∷ cs) ≡ c ∷ take_while is_digit cs = take_while-cons is_digit c cs ∙ rw d refl in
    ap (λ (z : List ℕ). number_result (take_while is_digit (c ∷ cs)) (number_of z)) (take_run is_digit (c ∷ cs))
    ∙ ap (λ (z : List ℕ). number_result z (number_of z)) run

pub small_number : (ds : List ℕ) → is_number ds ≡ true → number_on 0 ds ≤ 4611686018427387904 → number_token ds ≡ Some (kind.Number (pos (number_on 0 ds)))
small_number ds n h = let t : nat_le (number_on 0 ds) 4611686018427387904 ≡ true = grind (arith, nat_tests) in rw (n, t) refl

large_number : (ds : List ℕ) → 4611686018427387904 < number_on 0 ds → number_token ds ≡ None
large_number ds h = let t : nat_le (number_on 0 ds) 4611686018427387904 ≡ false = grind (arith, nat_tests) in rw t (rw (and_false (is_number ds)) refl)

number_small_found : (c : ℕ) (w rest : List ℕ) → starts_word c ≡ false → is_digit c ≡ true → list_all is_digit w ≡ true → Stops is_digit rest → number_on 0 (c ∷ w) ≤ 4611686018427387904
    → Found (kind.Number (pos (number_on 0 (c ∷ w))), length (c ∷ w)) (c ∷ (w ++ rest))
number_small_found c w rest h d all stops small = record {
  w = c ∷ w;
  rest = rest;
  parts = refl;
  count = refl;
  some = omega arith;
  first = record {
    spelled = token_number c w h d ∙ small_number (c ∷ w) (rw d all) small;
    longest = number_longest c w rest h d stops;
  };
}

number_none_at : (c : ℕ) (w u after rest : List ℕ) (k : TokenKind) → starts_word c ≡ false → is_digit c ≡ true → Stops is_digit rest → 4611686018427387904 < number_on 0 (c ∷ w)
    → rest ≡ u ++ after → token_of (c ∷ (w ++ u)) ≡ Some k → ⊥
number_none_at c w [] after rest k h d stops large p e =
    let none : token_of (c ∷ w) ≡ None = token_number c w h d ∙ large_number (c ∷ w) large in
    let same : token_of (c ∷ (w ++ [])) ≡ token_of (c ∷ w) = ap (λ (z : List ℕ). token_of (c ∷ z)) (append-nil w) in
    cc
number_none_at c w (x ∷ xs) after rest k h d stops large p e =
    let none = digits_longer c w (x ∷ xs) h d (omega arith) (stops_part is_digit (x ∷ xs) after rest p stops) in
    let n = none.0 in
    cc

number_none : (c : ℕ) (w rest : List ℕ) → starts_word c ≡ false → is_digit c ≡ true → list_all is_digit w ≡ true → Stops is_digit rest → 4611686018427387904 < number_on 0 (c ∷ w)
    → (k : TokenKind) (v after : List ℕ) → c ∷ (w ++ rest) ≡ v ++ after → IsLongest k v after → (t : Bool) → nat_le (length (c ∷ w)) (length v) ≡ t → ⊥
number_none c w rest h d all stops large k v after p first true t =
    let s = split_long (c ∷ w) v rest after p (grind (arith, nat_tests)) in
    number_none_at c w s.0 after rest k h d stops large s.2 (ap token_of (sym s.1) ∙ first.spelled)
number_none c w rest h d all stops large k v after p first false t =
    let no : is_lexeme (c ∷ w) ≡ false = first.longest (c ∷ w) rest (sym p) (grind (arith, nat_tests)) in
    let n : is_number (c ∷ w) ≡ true = rw d all in
    let yes : is_lexeme (c ∷ w) ≡ true = number_lexeme (c ∷ w) n in
    let f = sym no ∙ yes in cc

-- what is found where a token may stand, or that there is none
abbrev pub Reads : Option (TokenKind × ℕ) → List ℕ → Type 0
Reads (Some x) text = Found x text
Reads None text = NoneFound text

number_case : (c : ℕ) (w rest : List ℕ) (t : Bool) → starts_word c ≡ false → is_digit c ≡ true → list_all is_digit w ≡ true → Stops is_digit rest → nat_le (number_on 0 (c ∷ w)) 4611686018427387904 ≡ t
    → Reads (number_result (c ∷ w) (number_of (c ∷ w))) (c ∷ (w ++ rest))
number_case c w rest true h d all stops t =
    let small : number_on 0 (c ∷ w) ≤ 4611686018427387904 = grind (arith, nat_tests) in
    subst (λ (o : Option ℤ). Reads (number_result (c ∷ w) o) (c ∷ (w ++ rest))) (sym (number_of-small (c ∷ w) small)) (number_small_found c w rest h d all stops small)
number_case c w rest false h d all stops t =
    let large : 4611686018427387904 < number_on 0 (c ∷ w) = grind (arith, nat_tests) in
    subst (λ (o : Option ℤ). Reads (number_result (c ∷ w) o) (c ∷ (w ++ rest))) (sym (number_of-large (c ∷ w) large))
    (record { none = λ k v after p first. number_none c w rest h d all stops large k v after p first (nat_le (length (c ∷ w)) (length v)) refl })

number_first : (c : ℕ) (cs : List ℕ) → starts_word c ≡ false → is_digit c ≡ true → Reads (number_at (c ∷ cs)) (c ∷ cs)
number_first c cs h d =
    let w : List ℕ = take_while is_digit cs in
    let rest : List ℕ = drop (length w) cs in
    let whole : c ∷ (w ++ rest) ≡ c ∷ cs = ap (λ (z : List ℕ). c ∷ z) (sym (run_parts is_digit cs)) in
    subst (λ (o : Option (TokenKind × ℕ)). Reads o (c ∷ cs)) (sym (number_at_is c cs d))
    (subst (λ (z : List ℕ). Reads (number_result (c ∷ w) (number_of (c ∷ w))) z) whole
    (number_case c w rest (nat_le (number_on 0 (c ∷ w)) 4611686018427387904) h d (run_passes is_digit cs) (run_stops is_digit cs) refl))

-- ---- labels

label_fails : (v : List ℕ) → list_all continues_label v ≡ false → label_token v ≡ None
label_fails [] h = refl
label_fails (x ∷ xs) h = rw h refl

abbrev label_result : List ℕ → Option (TokenKind × ℕ)
label_result w = cond (length w == 0) None (Some (kind.Label (encode_utf8_all w), 1 + length w))

label_at_is : (cs : List ℕ) → label_at cs ≡ label_result (take_while continues_label cs)
unfolding label_at
label_at_is cs = ap (λ (z : List ℕ). cond (length (take_while continues_label cs) == 0) None (Some (kind.Label (encode_utf8_all z), 1 + length (take_while continues_label cs)))) (take_run continues_label cs)

label_none : (v : List ℕ) → Stops continues_label v → label_token v ≡ None
label_none [] h = refl
label_none (x ∷ xs) h = rw h refl

-- the `@` alone, or with characters of which the first is none of a label
no_label : (rest : List ℕ) → starts_word 64 ≡ false → Stops continues_label rest → (k : TokenKind) (v after : List ℕ) → 64 ∷ rest ≡ v ++ after → IsLongest k v after → ⊥
no_label rest h stops k [] after p first = let e = first.spelled in cc
no_label rest h stops k (x ∷ xs) after p first =
    let same : 64 ≡ x = cc in
    let more : rest ≡ xs ++ after = cc in
    let none : token_of (64 ∷ xs) ≡ None = token_label xs h ∙ label_none xs (stops_part continues_label xs after rest more stops) in
    let some : token_of (64 ∷ xs) ≡ Some k = ap (λ (z : ℕ). token_of (z ∷ xs)) same ∙ first.spelled in
    cc

is_none : (n : ℕ) → 0 < n → (n == 0) ≡ false
is_none n h = grind (arith, nat_tests)

label_case : (w rest : List ℕ) → starts_word 64 ≡ false → list_all continues_label w ≡ true → Stops continues_label rest → Reads (label_result w) (64 ∷ (w ++ rest))
label_case [] rest h all stops = record { none = no_label rest h stops }
label_case (x ∷ xs) rest h all stops =
    subst (λ (t : Bool). Reads (cond t None (Some (kind.Label (encode_utf8_all (x ∷ xs)), 1 + length (x ∷ xs)))) (64 ∷ ((x ∷ xs) ++ rest))) (sym (is_none (length (x ∷ xs)) (omega arith)))
    (record {
      w = 64 ∷ x ∷ xs;
      rest = rest;
      parts = refl;
      count = omega arith;
      some = omega arith;
      first = record {
        spelled = token_label (x ∷ xs) h ∙ rw all refl;
        longest = λ longer after e l.
            let s = split_long (64 ∷ x ∷ xs) longer rest after e (omega arith) in
            let u : List ℕ = s.0 in
            let fails : list_all continues_label ((x ∷ xs) ++ u) ≡ false = fails_after continues_label (x ∷ xs) u (omega (arith, ap length s.1, length-append xs u)) (stops_part continues_label u after rest s.2 stops) in
            rw s.1 (no_lexeme (64 ∷ ((x ∷ xs) ++ u)) (token_label ((x ∷ xs) ++ u) h ∙ label_fails ((x ∷ xs) ++ u) fails) refl);
      };
    })

label_first : (cs : List ℕ) → starts_word 64 ≡ false → Reads (label_at cs) (64 ∷ cs)
label_first cs h =
    let w : List ℕ = take_while continues_label cs in
    let rest : List ℕ = drop (length w) cs in
    let whole : 64 ∷ (w ++ rest) ≡ 64 ∷ cs = ap (λ (z : List ℕ). 64 ∷ z) (sym (run_parts continues_label cs)) in
    subst (λ (o : Option (TokenKind × ℕ)). Reads o (64 ∷ cs)) (sym (label_at_is cs))
    (subst (λ (z : List ℕ). Reads (label_result w) z) whole (label_case w rest h (run_passes continues_label cs) (run_stops continues_label cs)))

-- ---- signs

front_taken : (text longer after : List ℕ) → text ≡ longer ++ after → take (length longer) text ≡ longer
front_taken text longer after e = ap (take (length longer)) e ∙ take_at longer after (length longer) refl

front_fits : (text longer after : List ℕ) → text ≡ longer ++ after → length longer ≤ length text
front_fits text longer after e = omega (arith, ap length e, length-append longer after)

sign_reads : (c : ℕ) (cs : List ℕ) (v after : List ℕ) → starts_word c ≡ false → is_digit c ≡ false → (c == 64) ≡ false → c ∷ cs ≡ v ++ after → 0 < length v
    → (token_of v ≡ option_map kind.Sign (sign_of (take (length v) (c ∷ cs)))) × (is_number v ≡ false)
sign_reads c cs [] after h d a p l = absurd (omega arith)
sign_reads c cs (x ∷ xs) after h d a p l =
    let same : c ≡ x = cc in
    let t : take (length (x ∷ xs)) (c ∷ cs) ≡ x ∷ xs = front_taken (c ∷ cs) (x ∷ xs) after p in (
      subst (λ (z : ℕ). token_of (z ∷ xs) ≡ option_map kind.Sign (sign_of (z ∷ xs))) same (token_sign c xs h d a) ∙ ap (λ (z : List ℕ). option_map kind.Sign (sign_of z)) (sym t),
      subst (λ (z : ℕ). is_number (z ∷ xs) ≡ false) same (number_head c xs d),
    )

abbrev sign_result : Option (Sign × ℕ) → Option (TokenKind × ℕ)
sign_result o = option_map (λ x. (kind.Sign x.0, x.1)) o

no_sign_at : (c : ℕ) (cs : List ℕ) → starts_word c ≡ false → is_digit c ≡ false → (c == 64) ≡ false → sign_at (c ∷ cs) ≡ None
    → (k : TokenKind) (v after : List ℕ) → c ∷ cs ≡ v ++ after → IsLongest k v after → ⊥
no_sign_at c cs h d a e k [] after p first = let f = first.spelled in cc
no_sign_at c cs h d a e k (x ∷ xs) after p first =
    let reads = sign_reads c cs (x ∷ xs) after h d a p (omega arith) in
    let none : sign_of (take (length (x ∷ xs)) (c ∷ cs)) ≡ None = sign_none c cs h e (length (x ∷ xs)) (omega arith) (front_fits (c ∷ cs) (x ∷ xs) after p) in
    let no : token_of (x ∷ xs) ≡ None = reads.0 ∙ ap (option_map kind.Sign) none in
    let yes = first.spelled in
    cc

sign_case : (c : ℕ) (cs : List ℕ) (o : Option (Sign × ℕ)) → starts_word c ≡ false → is_digit c ≡ false → (c == 64) ≡ false → sign_at (c ∷ cs) ≡ o → Reads (sign_result o) (c ∷ cs)
sign_case c cs None h d a e = record { none = λ k v after p first. no_sign_at c cs h d a e k v after p first }
sign_case c cs (Some x) h d a e =
    let s : IsLongestSign x.0 x.1 (c ∷ cs) = sign_found c cs x.0 x.1 h e in
    let w : List ℕ = take x.1 (c ∷ cs) in
    let rest : List ℕ = drop x.1 (c ∷ cs) in
    let parts : c ∷ cs ≡ w ++ rest = sym (take-append-drop x.1 (c ∷ cs)) in
    let count : length w ≡ x.1 = length-take-le x.1 (c ∷ cs) s.within in
    let some : 0 < length w = omega (arith, s.some) in
    record {
      w = w;
      rest = rest;
      parts = parts;
      count = count;
      some = some;
      first = record {
        spelled = (sign_reads c cs w rest h d a parts some).0 ∙ ap (λ (n : ℕ). option_map kind.Sign (sign_of (take n (c ∷ cs)))) count ∙ ap (option_map kind.Sign) s.spelled;
        longest = λ longer after p l.
            let whole : c ∷ cs ≡ longer ++ after = parts ∙ p in
            let reads = sign_reads c cs longer after h d a whole (omega arith) in
            let none : sign_of (take (length longer) (c ∷ cs)) ≡ None = s.longest (length longer) (omega arith) (front_fits (c ∷ cs) longer after whole) in
            no_lexeme longer (reads.0 ∙ ap (option_map kind.Sign) none) reads.1;
      };
    }

-- ---- any token

token_case : (c : ℕ) (cs : List ℕ) (s d a : Bool) → starts_word c ≡ s → is_digit c ≡ d → (c == 64) ≡ a
    → Reads (cond s (Some (word_at (c ∷ cs))) (cond d (number_at (c ∷ cs)) (cond a (label_at cs) (sign_result (sign_at (c ∷ cs)))))) (c ∷ cs)
token_case c cs true d a hs hd ha = word_first c cs hs
token_case c cs false true a hs hd ha = number_first c cs hs hd
token_case c cs false false true hs hd ha =
    let same : c ≡ 64 = is_same c 64 ha in
    let starts : starts_word 64 ≡ false = subst (λ (z : ℕ). starts_word z ≡ false) same hs in
    subst (λ (z : ℕ). Reads (label_at cs) (z ∷ cs)) (sym same) (label_first cs starts)
token_case c cs false false false hs hd ha = sign_case c cs (sign_at (c ∷ cs)) hs hd ha refl

none_in_none : (k : TokenKind) (v after : List ℕ) → [] ≡ v ++ after → IsLongest k v after → ⊥
none_in_none k [] after p first = let f = first.spelled in cc
none_in_none k (x ∷ xs) after p first = cc

-- what is found at the front is the longest token there, and where none is found there is none
pub token_at_reads : (text : List ℕ) → Reads (token_at text) text
unfolding token_at
token_at_reads [] = record { none = none_in_none }
token_at_reads (c ∷ cs) = token_case c cs (starts_word c) (is_digit c) (c == 64) refl refl refl
