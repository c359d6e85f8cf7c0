-- A number is read from its printed form, and from no other text.
use Rattle.std.proofs.Common.{◌≡◌, ◌∙◌, ℕ, suc, ◌<◌, ◌^◌, ◌==◌, List, [], ◌∷◌, ◌++◌, length, Bool, true, false, not, ◌&&◌, cond, ap, sym, subst, refl, arith, rules, ℤ, pos, negsuc, Option, Some, None, Result, Ok, Err, FitsSigned, w64}
use Rattle.std.specs.Prelude.{nat_le, int_le, option_and_then, decimal}
use Rattle.std.specs.Int.Signed.{mag}
use Rattle.std.specs.Int.{IsInRange}
use Rattle.std.specs.Fmt.{signed_decimal}
use Rattle.std.specs.Str.{bytes_eq, IsUtf8, IsAscii}
use Rattle.std.specs.Str.Parse.{AllDigits, IsNumeral, ParsesSigned, digits_value, signed_digits_value}
use Rattle.std.specs.List.{prefix_len}
use Rattle.std.proofs.lemmas.Int.{ints}
use Rattle.std.proofs.lemmas.Fmt.{decimal_is_IsNumeral, parse-signed_decimal, IsAscii-signed}
use Rattle.std.proofs.lemmas.Str.{IsUtf8-from_ascii}
use Rattle.std.proofs.lemmas.Str.Parse.{digit_at}
use Rattle.std.proofs.lemmas.Slice.Eq.{bytes_eq-Decides}
use Rattle.eb_value.specs.Typing.{in_range}
use Rattle.tree_lines.specs.Written.{is_small}
use Rattle.tree_lines.specs.steps.Reading.{integer_of, natural, natural_of}

pub both_true : (a b : Bool) → a && b ≡ true → (a ≡ true) × (b ≡ true)
both_true true b h = (refl, h)
both_true false b h = absurd (cc)

pub same_bytes : (xs ys : List ℕ) → bytes_eq xs ys ≡ true → xs ≡ ys
same_bytes xs ys e = (bytes_eq-Decides xs ys).0 e

pub bytes_same : (xs ys : List ℕ) → xs ≡ ys → bytes_eq xs ys ≡ true
bytes_same xs ys e = (bytes_eq-Decides xs ys).1 e

printed_by : (n m : ℤ) (text : List ℕ) (b : Bool) → in_range n && bytes_eq (signed_decimal n) text ≡ b → cond b (Some n) None ≡ Some m → (in_range m ≡ true) × (text ≡ signed_decimal m)
printed_by n m text true e is =
    let same : n ≡ m = cc in
    let both = both_true (in_range n) (bytes_eq (signed_decimal n) text) e in
    subst (λ z. (in_range z ≡ true) × (text ≡ signed_decimal z)) same (both.0, sym (same_bytes (signed_decimal n) text both.1))
printed_by n m text false e is = absurd (cc)

pub integer_is : (text : List ℕ) (n : ℤ) → integer_of text ≡ Some n → (in_range n ≡ true) × (text ≡ signed_decimal n)
integer_is text n is = printed_by (signed_digits_value 10 text) n text (in_range (signed_digits_value 10 text) && bytes_eq (signed_decimal (signed_digits_value 10 text)) text) refl is

none_by : (text : List ℕ) (o : Option ℤ) → integer_of text ≡ o → ((n : ℤ) → in_range n ≡ true → text ≡ signed_decimal n → ⊥) → o ≡ None
none_by text None e h = refl
none_by text (Some n) e h = let i = integer_is text n e in absurd (h n i.0 i.1)

pub no_integer : (text : List ℕ) → ((n : ℤ) → in_range n ≡ true → text ≡ signed_decimal n → ⊥) → integer_of text ≡ None
no_integer text h = none_by text (integer_of text) refl h

range_ends : (n : ℤ) → in_range n ≡ true → (int_le (negsuc 4611686018427387903) n ≡ true) × (int_le n (pos 4611686018427387904) ≡ true)
range_ends n e = both_true (int_le (negsuc 4611686018427387903) n) (int_le n (pos 4611686018427387904)) e

pub small_magnitude : (n : ℤ) → in_range n ≡ true → mag n < 2 ^ 63
small_magnitude (pos k) e = let h : nat_le k 4611686018427387904 ≡ true = (range_ends (pos k) e).1 in grind arith
small_magnitude (negsuc k) e = let h : nat_le k 4611686018427387903 ≡ true = (range_ends (negsuc k) e).0 in grind arith

pub small_fits : (n : ℤ) → in_range n ≡ true → FitsSigned w64 n
small_fits n e = let h = small_magnitude n e in search (rules, h)

pub not_utf8 : (text : List ℕ) → (IsUtf8 text → ⊥) → integer_of text ≡ None
not_utf8 text h = no_integer text (λ n small is. h (IsUtf8-from_ascii text (subst IsAscii (sym is) (IsAscii-signed n (small_magnitude n small)))))

is_ok : {A E : Type 0} (r : Result A E) (e : E) (a : A) → r ≡ Err e → r ≡ Ok a → ⊥
is_ok r e a is was = let same : Ok a ≡ Err e = sym was ∙ is in cc

pub not_parsed : {E : Type 0} (text : List ℕ) (r : Result ℤ E) (e : E) → ParsesSigned w64 10 text r → r ≡ Err e → integer_of text ≡ None
not_parsed text r e parses is = no_integer text (λ n small same. is_ok r e n is (parse-signed_decimal w64 n text r (small_fits n small) (small_magnitude n small) same parses))

-- digits begin with no sign
digits_unsigned : (b : ℕ) (ds : List ℕ) → IsInRange 48 57 b → signed_digits_value 10 (b ∷ ds) ≡ pos (digits_value 10 (b ∷ ds))
digits_unsigned b ds h = let minus : b == 45 ≡ false = grind arith in let plus : b == 43 ≡ false = grind arith in rw (minus, plus) refl

unsigned_value : (ds : List ℕ) → IsNumeral 10 ds → signed_digits_value 10 ds ≡ pos (digits_value 10 ds)
unsigned_value [] h = absurd (omega (arith, h.0))
unsigned_value (b ∷ ds) h = digits_unsigned b ds (digit_at (b ∷ ds) 0 h.1 (omega arith))

pub value_back : (n : ℤ) → in_range n ≡ true → signed_digits_value 10 (signed_decimal n) ≡ n
value_back (pos k) e =
    let small : k < 2 ^ 64 = omega (arith, small_magnitude (pos k) e) in
    let d = decimal_is_IsNumeral k small in
    unsigned_value (decimal k) d.0 ∙ ap pos d.1
value_back (negsuc k) e =
    let small : suc k < 2 ^ 64 = omega (arith, small_magnitude (negsuc k) e) in
    let d = decimal_is_IsNumeral (suc k) small in
    rw d.1 refl

pub integer_printed : (n : ℤ) → in_range n ≡ true → integer_of (signed_decimal n) ≡ Some n
integer_printed n e = rw (value_back n e, e, bytes_same (signed_decimal n) (signed_decimal n) refl) refl

small_in_range : (k : ℕ) → is_small k ≡ true → in_range (pos k) ≡ true
small_in_range k e = grind (arith, ints)

pub natural_printed : (k : ℕ) → is_small k ≡ true → natural_of (decimal k) ≡ Some k
natural_printed k e = ap (option_and_then natural) (integer_printed (pos k) (small_in_range k e))

natural_by : (text : List ℕ) (k : ℕ) (o : Option ℤ) → integer_of text ≡ o → option_and_then natural o ≡ Some k → (is_small k ≡ true) × (text ≡ decimal k)
natural_by text k None e is = absurd (cc)
natural_by text k (Some (pos j)) e is =
    let same : j ≡ k = cc in
    let i = integer_is text (pos j) e in
    let small : is_small j ≡ true = (range_ends (pos j) i.0).1 in
    (subst (λ z. is_small z ≡ true) same small, i.1 ∙ ap decimal same)
natural_by text k (Some (negsuc j)) e is = absurd (cc)

pub natural_is : (text : List ℕ) (k : ℕ) → natural_of text ≡ Some k → (is_small k ≡ true) × (text ≡ decimal k)
natural_is text k is = natural_by text k (integer_of text) refl is

-- a number's digits hold no space
no_space : (ds : List ℕ) → AllDigits 10 ds → (rest : List ℕ) → prefix_len (λ b. not (b == 32)) (ds ++ (32 ∷ rest)) ≡ length ds
no_space [] h rest = refl
no_space (b ∷ ds) h rest =
    let range : IsInRange 48 57 b = digit_at (b ∷ ds) 0 h (omega arith) in
    let other : b == 32 ≡ false = grind arith in
    let more = no_space ds h.1 rest in rw other (omega (arith, more))

pub word_before_space : (k : ℕ) → is_small k ≡ true → (rest : List ℕ) → prefix_len (λ b. not (b == 32)) (decimal k ++ (32 ∷ rest)) ≡ length (decimal k)
word_before_space k e rest =
    let small : k < 2 ^ 64 = grind arith in
    no_space (decimal k) (decimal_is_IsNumeral k small).0.1 rest
