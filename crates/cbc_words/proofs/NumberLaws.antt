-- Which number `parse` reads from a text without a sign.
use Rattle.std.proofs.Common.{◌≡◌, ◌≢◌, ℕ, suc, ◌<◌, ◌^◌, List, [], ◌∷◌, Bool, true, false, refl, ap, length, arith, get_or}
use Rattle.std.specs.Prelude.{Some, None, nat_le, ◌&&◌, ◌==◌, if◌then◌else◌, Option, IsSomeAnd}
use Rattle.std.specs.Bool.{then_some}
use Rattle.std.specs.Str.{all_ascii_digits}
use Rattle.std.specs.Str.Parse.{IsNumeral, digits_value, without_leading_plus}
use Rattle.std.proofs.lemmas.Bool.{leb-true, le-leb, eqb-true, eq-eqb}
use Rattle.std.proofs.lemmas.Str.Parse.{IsNumeralModel, numerals_by_value, tells_all_ascii_digits, without_leading_plus_none}
use Rattle.clap.proofs.WalkLemmas.{both}
use Rattle.cbc_words.specs.Actions.{is_decimal, small_number}

digits : IsNumeralModel (λ ds. all_ascii_digits ds ≡ true) (digits_value 10)
digits = numerals_by_value (λ ds. all_ascii_digits ds ≡ true) tells_all_ascii_digits

-- `parse` to a `u32` gives a number, and which
abbrev pub IsRead : List ℕ → Type 0
IsRead text = IsNumeral 10 (without_leading_plus text) × (digits_value 10 (without_leading_plus text) < 2 ^ 32)

abbrev pub Reads : List ℕ → ℕ → Type 0
Reads text n = IsRead text × (n ≡ digits_value 10 (without_leading_plus text))

decimal_from_numeral : (text : List ℕ) → IsNumeral 10 text → is_decimal text ≡ true
decimal_from_numeral text h = rw (le-leb 1 (length text) h.0, digits.from text h.1) refl

numeral_from_decimal : (text : List ℕ) → is_decimal text ≡ true → IsNumeral 10 text
numeral_from_decimal text e =
    let parts = both _ _ e in
    (leb-true _ _ parts.0, digits.to text parts.1)

pub small_of : (text : List ℕ) (n : ℕ) → get_or text 0 0 ≢ 43 → Reads text n
    → (if nat_le n 1000000 then Some n else None) ≡ small_number text
small_of text n plain h =
    let same = without_leading_plus_none text plain in
    let here = rw same at h in
    rw (here.1, decimal_from_numeral text here.0.0) refl

pub small_fails : (text : List ℕ) → get_or text 0 0 ≢ 43 → ¬ (IsRead text) → None ≡ small_number text
small_fails text plain h = go (is_decimal text && nat_le (digits_value 10 text) 1000000) refl
  where
    go : (b : Bool) → (is_decimal text && nat_le (digits_value 10 text) 1000000) ≡ b → None ≡ small_number text
    go true e =
        let parts = both _ _ e in
        let same = without_leading_plus_none text plain in
        let small = leb-true _ _ parts.1 in
        absurd ((rw same at h) (numeral_from_decimal _ parts.0, omega (arith, small)))
    go false e = rw e refl

pub plus_is_none : (text : List ℕ) → get_or text 0 0 ≡ 43 → None ≡ small_number text
plus_is_none [] e = refl
plus_is_none (x ∷ xs) e = rw (e, le-leb 1 (suc (length xs)) (omega arith)) refl

pub plus_from_test : (text : List ℕ) → (get_or text 0 0 == 43) ≡ true → get_or text 0 0 ≡ 43
plus_from_test text e = eqb-true _ _ e

pub no_plus_from_test : (text : List ℕ) → (get_or text 0 0 == 43) ≡ false → get_or text 0 0 ≢ 43
no_plus_from_test text e is = let yes : (get_or text 0 0 == 43) ≡ true = eq-eqb _ _ is in cc

pub is_some_with : {A : Type 0} (o : Option A) (x : A) → IsSomeAnd o (λ y. y ≡ x) → o ≡ Some x
is_some_with None x h = absurd h
is_some_with (Some y) x h = ap (λ (z : _). Some z) h

pub then_some_if : {A : Type 0} (b : Bool) (x : A) → then_some b x ≡ (if b then Some x else None)
then_some_if true x = refl
then_some_if false x = refl
