-- The parts of a line's text: words, places and tests.
use Rattle.std.proofs.Common.{◌≡◌, ◌∙◌, refl, sym, ap, ap₂, arith, ℕ, ℤ, pos, negsuc, suc, ◌-◌, ◌<◌, ◌^◌, ◌==◌, List, [], ◌∷◌, ◌++◌, length, take, drop, length-append, Bool, true, false, not, ◌&&◌, cond, Some, None}
use Rattle.std.specs.Prelude.{decimal}
use Rattle.std.specs.Int.{IsInRange}
use Rattle.std.specs.List.{list_all}
use Rattle.std.specs.Str.{bytes_eq}
use Rattle.std.specs.Str.Parse.{AllDigits}
use Rattle.std.proofs.lemmas.Fmt.{decimal_is_IsNumeral}
use Rattle.std.proofs.lemmas.Str.Parse.{digit_at}
use Rattle.std.proofs.lemmas.List.{take-append-drop}
use Rattle.std.proofs.Math.Seq.{take-append_seam, drop-append_seam}
use Rattle.std.specs.Fmt.{signed_decimal}
use Rattle.eb_value.specs.Typing.{in_range}
use Rattle.tree_lines.specs.Written.{is_word, is_small}
use Rattle.tree_lines.specs.steps.Reading as spec
use Rattle.tree_lines.proofs.NumberLaws.{both_true, same_bytes, bytes_same, small_magnitude}

-- ---- prefixes and endings

stripped_by : (prefix text rest : List ℕ) (b : Bool) → bytes_eq (take (length prefix) text) prefix ≡ b → cond b (Some (drop (length prefix) text)) None ≡ Some rest → text ≡ prefix ++ rest
stripped_by prefix text rest true e same =
    let front : take (length prefix) text ≡ prefix = same_bytes (take (length prefix) text) prefix e in
    let back : drop (length prefix) text ≡ rest = cc in
    sym (take-append-drop (length prefix) text) ∙ ap₂ (λ x y. x ++ y) front back
stripped_by prefix text rest false e same = absurd (cc)

pub stripped_is : (prefix text rest : List ℕ) → spec.stripped prefix text ≡ Some rest → text ≡ prefix ++ rest
stripped_is prefix text rest same = stripped_by prefix text rest (bytes_eq (take (length prefix) text) prefix) refl same

unended_by : (ending text rest : List ℕ) (b : Bool) → bytes_eq (drop (length text - length ending) text) ending ≡ b → cond b (Some (take (length text - length ending) text)) None ≡ Some rest
    → text ≡ rest ++ ending
unended_by ending text rest true e same =
    let back : drop (length text - length ending) text ≡ ending = same_bytes (drop (length text - length ending) text) ending e in
    let front : take (length text - length ending) text ≡ rest = cc in
    sym (take-append-drop (length text - length ending) text) ∙ ap₂ (λ x y. x ++ y) front back
unended_by ending text rest false e same = absurd (cc)

pub unended_is : (ending text rest : List ℕ) → spec.unended ending text ≡ Some rest → text ≡ rest ++ ending
unended_is ending text rest same = unended_by ending text rest (bytes_eq (drop (length text - length ending) text) ending) refl same

pub unended_back : (xs ending : List ℕ) → spec.unended ending (xs ++ ending) ≡ Some xs
unended_back xs ending =
    let count : length (xs ++ ending) - length ending ≡ length xs = omega (arith, length-append xs ending) in
    let back : drop (length xs) (xs ++ ending) ≡ ending = drop-append_seam xs ending in
    let front : take (length xs) (xs ++ ending) ≡ xs = take-append_seam xs ending in
    rw (count, back, front, bytes_same ending ending refl) refl

-- ---- words

pub all_append : (p : ℕ → Bool) (xs ys : List ℕ) → list_all p xs ≡ true → list_all p ys ≡ true → list_all p (xs ++ ys) ≡ true
all_append p [] ys h k = k
all_append p (x ∷ xs) ys h k = let both = both_true (p x) (list_all p xs) h in rw (both.0) (all_append p xs ys both.1 k)

abbrev pub no_space : List ℕ → Bool
no_space xs = list_all (λ b. not (b == 32)) xs

pub word_no_space : (xs : List ℕ) → is_word xs ≡ true → no_space xs ≡ true
word_no_space [] h = refl
word_no_space (b ∷ bs) h =
    let both = both_true (not (b == 32) && not (b == 10)) (is_word bs) h in
    let other : not (b == 32) ≡ true = (both_true (not (b == 32)) (not (b == 10)) both.0).0 in
    rw other (word_no_space bs both.1)

-- a text without spaces goes up to the space behind it
space_then : (xs rest : List ℕ) → no_space xs ≡ true → spec.word_length (xs ++ (32 ∷ rest)) ≡ length xs
space_then [] rest h = refl
space_then (b ∷ bs) rest h =
    let both = both_true (not (b == 32)) (no_space bs) h in
    let other : not (b == 32) ≡ true = both.0 in
    let more = space_then bs rest both.1 in rw other (omega (arith, more))

pub space_front : (xs rest : List ℕ) → no_space xs ≡ true → take (spec.word_length (xs ++ (32 ∷ rest))) (xs ++ (32 ∷ rest)) ≡ xs
space_front xs rest h = ap (λ n. take n (xs ++ (32 ∷ rest))) (space_then xs rest h) ∙ take-append_seam xs (32 ∷ rest)

pub space_behind : (xs rest : List ℕ) → no_space xs ≡ true → drop (spec.word_length (xs ++ (32 ∷ rest))) (xs ++ (32 ∷ rest)) ≡ 32 ∷ rest
space_behind xs rest h = ap (λ n. drop n (xs ++ (32 ∷ rest))) (space_then xs rest h) ∙ drop-append_seam xs (32 ∷ rest)

pub word_front : (xs rest : List ℕ) → is_word xs ≡ true → take (spec.word_length (xs ++ (32 ∷ rest))) (xs ++ (32 ∷ rest)) ≡ xs
word_front xs rest h = space_front xs rest (word_no_space xs h)

pub word_behind : (xs rest : List ℕ) → is_word xs ≡ true → drop (spec.word_length (xs ++ (32 ∷ rest))) (xs ++ (32 ∷ rest)) ≡ 32 ∷ rest
word_behind xs rest h = space_behind xs rest (word_no_space xs h)

digits_are_word : (ds : List ℕ) → AllDigits 10 ds → is_word ds ≡ true
digits_are_word [] h = refl
digits_are_word (b ∷ ds) h =
    let range : IsInRange 48 57 b = digit_at (b ∷ ds) 0 h (omega arith) in
    let space : b == 32 ≡ false = grind arith in
    let feed : b == 10 ≡ false = grind arith in
    rw (space, feed) (digits_are_word ds h.1)

small_number : (k : ℕ) → is_small k ≡ true → k < 2 ^ 64
small_number k e = grind arith

pub number_is_word : (k : ℕ) → is_small k ≡ true → is_word (decimal k) ≡ true
number_is_word k e = digits_are_word (decimal k) (decimal_is_IsNumeral k (small_number k e)).0.1

pub integer_is_word : (n : ℤ) → in_range n ≡ true → is_word (signed_decimal n) ≡ true
integer_is_word (pos k) e = digits_are_word (decimal k) (decimal_is_IsNumeral k (let h = small_magnitude (pos k) e in omega (arith, h))).0.1
integer_is_word (negsuc k) e = digits_are_word (decimal (suc k)) (decimal_is_IsNumeral (suc k) (let h = small_magnitude (negsuc k) e in omega (arith, h))).0.1

-- ---- the number of a node, up to a bracket

bracket_then : (ds rest : List ℕ) → AllDigits 10 ds → spec.number_length (ds ++ (91 ∷ rest)) ≡ length ds
bracket_then [] rest h = refl
bracket_then (b ∷ ds) rest h =
    let range : IsInRange 48 57 b = digit_at (b ∷ ds) 0 h (omega arith) in
    let other : b == 91 ≡ false = grind arith in
    let more = bracket_then ds rest h.1 in rw other (omega (arith, more))

none_then : (ds : List ℕ) → AllDigits 10 ds → spec.number_length (ds ++ []) ≡ length ds
none_then [] h = refl
none_then (b ∷ ds) h =
    let range : IsInRange 48 57 b = digit_at (b ∷ ds) 0 h (omega arith) in
    let other : b == 91 ≡ false = grind arith in
    let more = none_then ds h.1 in rw other (omega (arith, more))

pub number_then : (k : ℕ) (rest : List ℕ) → is_small k ≡ true → spec.number_length (decimal k ++ (91 ∷ rest)) ≡ length (decimal k)
number_then k rest e = bracket_then (decimal k) rest (decimal_is_IsNumeral k (small_number k e)).0.1

pub number_alone : (k : ℕ) → is_small k ≡ true → spec.number_length (decimal k ++ []) ≡ length (decimal k)
number_alone k e = none_then (decimal k) (decimal_is_IsNumeral k (small_number k e)).0.1
