-- The longest run of characters that pass a test.
use Rattle.std.proofs.Common.{◌≡◌, ℕ, ◌<◌, Bool, true, false, cond, List, [], ◌∷◌, ◌++◌, length, take, drop, refl, ap, arith}
use Rattle.std.specs.Prelude.{take_while}
use Rattle.eb_lexer.proofs.Bools.{both_true}
use Rattle.std.specs.List.{list_all}
use Rattle.std.proofs.lemmas.List.{take_at, drop_at}
use Rattle.std.proofs.lemmas.List.Folds.{length-prefix_len}
use Rattle.std.proofs.lemmas.List.Sums.{take_while-cons}

-- the text is at its end, or its first character fails
abbrev pub Stops : (ℕ → Bool) → List ℕ → Type 0
Stops p [] = Unit {0}
Stops p (b ∷ bs) = p b ≡ false

pub take_run : (p : ℕ → Bool) (t : List ℕ) → take (length (take_while p t)) t ≡ take_while p t
take_run p t = ap (λ n. take n t) (length-prefix_len p t)

passes_at : (p : ℕ → Bool) (x : ℕ) (run : List ℕ) (b : Bool) → p x ≡ b → list_all p run ≡ true → list_all p (cond b (x ∷ run) []) ≡ true
passes_at p x run true e h = rw e h
passes_at p x run false e h = refl

pub run_passes : (p : ℕ → Bool) (t : List ℕ) → list_all p (take_while p t) ≡ true
run_passes p [] = refl
run_passes p (x ∷ xs) = rw (take_while-cons p x xs) (passes_at p x (take_while p xs) (p x) refl (run_passes p xs))

fails_at : (p : ℕ → Bool) (x : ℕ) (run ys : List ℕ) (b : Bool) → p x ≡ b → (length run < length ys → list_all p ys ≡ false)
    → length (cond b (x ∷ run) []) < length (x ∷ ys) → list_all p (x ∷ ys) ≡ false
fails_at p x run ys true e h l = rw e (h (omega arith))
fails_at p x run ys false e h l = rw e refl

-- what is longer than the run does not pass
pub run_longest : (p : ℕ → Bool) (t longer after : List ℕ) → t ≡ longer ++ after → length (take_while p t) < length longer → list_all p longer ≡ false
run_longest p t [] after e l = absurd (omega arith)
run_longest p [] (y ∷ ys) after e l = absurd cc
run_longest p (x ∷ xs) (y ∷ ys) after e l =
    let same : x ≡ y = cc in
    let rest : xs ≡ ys ++ after = cc in
    rw (← same) (fails_at p x (take_while p xs) ys (p x) refl (λ m. run_longest p xs ys after rest m) (rw (take_while-cons p x xs) at l))

-- a run that passes, behind which the text stops, is the longest one
pub run_exact : (p : ℕ → Bool) (w rest : List ℕ) → list_all p w ≡ true → Stops p rest → take_while p (w ++ rest) ≡ w
run_exact p [] [] h s = refl
run_exact p [] (b ∷ bs) h s = rw (take_while-cons p b bs, s) refl
run_exact p (x ∷ xs) rest h s =
    let parts : (p x ≡ true) × (list_all p xs ≡ true) = both_true (p x) (list_all p xs) h in
    rw (take_while-cons p x (xs ++ rest), parts.0) (ap (λ (z : List ℕ). x ∷ z) (run_exact p xs rest parts.1 s))

pub run_taken : (p : ℕ → Bool) (w rest : List ℕ) → list_all p w ≡ true → Stops p rest → take (length (take_while p (w ++ rest))) (w ++ rest) ≡ w
run_taken p w rest h s = rw (run_exact p w rest h s) (take_at w rest (length w) refl)

pub run_dropped : (p : ℕ → Bool) (w rest : List ℕ) → list_all p w ≡ true → Stops p rest → drop (length (take_while p (w ++ rest))) (w ++ rest) ≡ rest
run_dropped p w rest h s = rw (run_exact p w rest h s) (drop_at w rest (length w) refl)
