-- Which test is written so.
use Rattle.std.proofs.Common.{◌≡◌, ◌∙◌, refl, sym, ap, ℤ, arith, ℕ, ◌==◌, List, [], ◌∷◌, ◌++◌, length, take, drop, false}
use Rattle.std.specs.Prelude.{map}
use Rattle.std.specs.Fmt.{signed_decimal}
use Rattle.std.proofs.Math.Seq.{take-append_seam, drop-append_seam}
use Rattle.eb_value.specs.declared.value.Value.{Value}
use Rattle.eb_value.specs.Texts.{value_text}
use Rattle.eb_term.specs.declared.operators.Side.{Side}
use Rattle.eb_term.specs.declared.operators.Side.TheVariants as side
use Rattle.occ_domains.specs.declared.tests.Test.{Test}
use Rattle.occ_domains.specs.declared.tests.Test.TheVariants as test
use Rattle.tree_lines.specs.Words.{path_text, letters, test_text}
use Rattle.tree_lines.specs.Written.{Asked, asked_text}
use Rattle.tree_lines.specs.Written as form
use Rattle.tree_lines.specs.steps.Reading as spec

-- ---- the word of a path

letters_then : (p : List Side) (rest : List ℕ) → spec.word_length (letters p ++ (32 ∷ rest)) ≡ length (letters p)
letters_then [] rest = refl
letters_then (side.First ∷ p) rest = let more = letters_then p rest in omega (arith, more)
letters_then (side.Second ∷ p) rest = let more = letters_then p rest in omega (arith, more)

pub path_then : (p : List Side) (rest : List ℕ) → spec.word_length (path_text p ++ (32 ∷ rest)) ≡ length (path_text p)
path_then [] rest = refl
path_then (s ∷ p) rest = letters_then (s ∷ p) rest

-- the path's word and what stands behind it
pub path_front : (p : List Side) (rest : List ℕ) → take (spec.word_length (path_text p ++ (32 ∷ rest))) (path_text p ++ (32 ∷ rest)) ≡ path_text p
path_front p rest = ap (λ n. take n (path_text p ++ (32 ∷ rest))) (path_then p rest) ∙ take-append_seam (path_text p) (32 ∷ rest)

pub path_behind : (p : List Side) (rest : List ℕ) → drop (spec.word_length (path_text p ++ (32 ∷ rest))) (path_text p ++ (32 ∷ rest)) ≡ 32 ∷ rest
path_behind p rest = ap (λ n. drop n (path_text p ++ (32 ∷ rest))) (path_then p rest) ∙ drop-append_seam (path_text p) (32 ∷ rest)

sides_of_letters : (p : List Side) → map spec.side_of (letters p) ≡ p
sides_of_letters [] = refl
sides_of_letters (side.First ∷ p) = ap (λ x. side.First ∷ x) (sides_of_letters p)
sides_of_letters (side.Second ∷ p) = ap (λ x. side.Second ∷ x) (sides_of_letters p)

pub sides_of_path : (p : List Side) → spec.sides (path_text p) ≡ p
sides_of_path [] = refl
sides_of_path (side.First ∷ p) = ap (λ x. side.First ∷ x) (sides_of_letters p)
sides_of_path (side.Second ∷ p) = ap (λ x. side.Second ∷ x) (sides_of_letters p)

-- two paths with texts behind them
pub path_apart : (p q : List Side) (a b : List ℕ) → path_text p ++ (32 ∷ a) ≡ path_text q ++ (32 ∷ b) → (p ≡ q) × (a ≡ b)
path_apart p q a b e =
    let front : path_text p ≡ path_text q = sym (path_front p a) ∙ ap (λ x. take (spec.word_length x) x) e ∙ path_front q b in
    let behind : 32 ∷ a ≡ 32 ∷ b = sym (path_behind p a) ∙ ap (λ x. drop (spec.word_length x) x) e ∙ path_behind q b in
    (sym (sides_of_path p) ∙ ap spec.sides front ∙ sides_of_path q, let same : a ≡ b = cc in same)

-- ---- tests

-- the test that is written so
abbrev pub AskedAs : List (List ℕ) → Asked → Test → Type 0
AskedAs names (form.at_most q m) t = (n : ℤ) × (t ≡ test.AtMost q n) × (signed_decimal n ≡ signed_decimal m)
AskedAs names (form.is q w) t = (v : Value) × (t ≡ test.Is q v) × (value_text names v ≡ w)
AskedAs names (form.has q w) t = ⊥
AskedAs names (form.card q m) t = ⊥
AskedAs names form.says_defined t = t ≡ test.Defined
AskedAs names form.says_true t = t ≡ test.True
AskedAs names form.says_false t = t ≡ test.False
AskedAs names form.says_undefined t = t ≡ test.Undefined

abbrev first : List ℕ → ℕ
first [] = 0
first (b ∷ bs) = b

-- what stands behind three letters
abbrev behind : List ℕ → List ℕ
behind xs = drop 3 xs

apart : (n m : ℕ) → n == m ≡ false → n ≡ m → ⊥
apart n m other same = grind arith

pub asked_as : (names : List (List ℕ)) (t : Test) (asked : Asked) → test_text names t ≡ asked_text asked → AskedAs names asked t
asked_as names (test.AtMost p n) (form.at_most q m) e = let same = path_apart p q (signed_decimal n) (signed_decimal m) (ap behind e) in (n, ap (λ x. test.AtMost x n) same.0, same.1)
asked_as names (test.AtMost p n) (form.is q w) e = absurd (apart 108 105 refl (ap first e))
asked_as names (test.AtMost p n) (form.has q w) e = absurd (apart 108 104 refl (ap first e))
asked_as names (test.AtMost p n) (form.card q m) e = absurd (apart 108 99 refl (ap first e))
asked_as names (test.AtMost p n) form.says_defined e = absurd (apart 108 100 refl (ap first e))
asked_as names (test.AtMost p n) form.says_true e = absurd (apart 108 116 refl (ap first e))
asked_as names (test.AtMost p n) form.says_false e = absurd (apart 108 102 refl (ap first e))
asked_as names (test.AtMost p n) form.says_undefined e = absurd (apart 108 117 refl (ap first e))
asked_as names (test.Is p v) (form.at_most q m) e = absurd (apart 105 108 refl (ap first e))
asked_as names (test.Is p v) (form.is q w) e = let same = path_apart p q (value_text names v) w (ap behind e) in (v, ap (λ x. test.Is x v) same.0, same.1)
asked_as names (test.Is p v) (form.has q w) e = absurd (apart 105 104 refl (ap first e))
asked_as names (test.Is p v) (form.card q m) e = absurd (apart 105 99 refl (ap first e))
asked_as names (test.Is p v) form.says_defined e = absurd (apart 105 100 refl (ap first e))
asked_as names (test.Is p v) form.says_true e = absurd (apart 105 116 refl (ap first e))
asked_as names (test.Is p v) form.says_false e = absurd (apart 105 102 refl (ap first e))
asked_as names (test.Is p v) form.says_undefined e = absurd (apart 105 117 refl (ap first e))
asked_as names test.Defined (form.at_most q m) e = absurd (apart 100 108 refl (ap first e))
asked_as names test.Defined (form.is q w) e = absurd (apart 100 105 refl (ap first e))
asked_as names test.Defined (form.has q w) e = absurd (apart 100 104 refl (ap first e))
asked_as names test.Defined (form.card q m) e = absurd (apart 100 99 refl (ap first e))
asked_as names test.Defined form.says_defined e = refl
asked_as names test.Defined form.says_true e = absurd (apart 100 116 refl (ap first e))
asked_as names test.Defined form.says_false e = absurd (apart 100 102 refl (ap first e))
asked_as names test.Defined form.says_undefined e = absurd (apart 100 117 refl (ap first e))
asked_as names test.True (form.at_most q m) e = absurd (apart 116 108 refl (ap first e))
asked_as names test.True (form.is q w) e = absurd (apart 116 105 refl (ap first e))
asked_as names test.True (form.has q w) e = absurd (apart 116 104 refl (ap first e))
asked_as names test.True (form.card q m) e = absurd (apart 116 99 refl (ap first e))
asked_as names test.True form.says_defined e = absurd (apart 116 100 refl (ap first e))
asked_as names test.True form.says_true e = refl
asked_as names test.True form.says_false e = absurd (apart 116 102 refl (ap first e))
asked_as names test.True form.says_undefined e = absurd (apart 116 117 refl (ap first e))
asked_as names test.False (form.at_most q m) e = absurd (apart 102 108 refl (ap first e))
asked_as names test.False (form.is q w) e = absurd (apart 102 105 refl (ap first e))
asked_as names test.False (form.has q w) e = absurd (apart 102 104 refl (ap first e))
asked_as names test.False (form.card q m) e = absurd (apart 102 99 refl (ap first e))
asked_as names test.False form.says_defined e = absurd (apart 102 100 refl (ap first e))
asked_as names test.False form.says_true e = absurd (apart 102 116 refl (ap first e))
asked_as names test.False form.says_false e = refl
asked_as names test.False form.says_undefined e = absurd (apart 102 117 refl (ap first e))
asked_as names test.Undefined (form.at_most q m) e = absurd (apart 117 108 refl (ap first e))
asked_as names test.Undefined (form.is q w) e = absurd (apart 117 105 refl (ap first e))
asked_as names test.Undefined (form.has q w) e = absurd (apart 117 104 refl (ap first e))
asked_as names test.Undefined (form.card q m) e = absurd (apart 117 99 refl (ap first e))
asked_as names test.Undefined form.says_defined e = absurd (apart 117 100 refl (ap first e))
asked_as names test.Undefined form.says_true e = absurd (apart 117 116 refl (ap first e))
asked_as names test.Undefined form.says_false e = absurd (apart 117 102 refl (ap first e))
asked_as names test.Undefined form.says_undefined e = refl
