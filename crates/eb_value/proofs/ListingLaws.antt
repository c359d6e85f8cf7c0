-- The lists of integers and of atoms, one longer.
use Rattle.std.proofs.Common.{◌≡◌, ◌∙◌, ℕ, zero, suc, ◌+◌, ℤ, pos, ◌+ℤ◌, ◌≤ℤ◌, [], ◌∷◌, ◌++◌, ap, arith}
use Rattle.std.proofs.lemmas.Int.{ints}
use Rattle.eb_value.specs.Values.{int, atom}
use Rattle.eb_value.specs.Scopes.{ints_from, atoms_from}
use Rattle.eb_value.specs.Counts.{integers_within}
use Rattle.eb_value.proofs.IntegerLaws.{gap_up}

atoms_suc : (place k n : ℕ) → atoms_from place k (suc n) ≡ atoms_from place k n ++ atom place (k + n) ∷ []
atoms_suc place k zero = ap (λ j. atom place j ∷ []) (omega arith)
atoms_suc place k (suc n) = ap (λ xs. atom place k ∷ xs) (atoms_suc place (k + 1) n ∙ ap (λ j. atoms_from place (k + 1) n ++ atom place j ∷ []) (omega arith))

pub atoms_more : (place n : ℕ) → atoms_from place 1 (n + 1) ≡ atoms_from place 1 n ++ atom place (n + 1) ∷ []
atoms_more place n =
    let e : n + 1 ≡ suc n = omega arith in
    let f : 1 + n ≡ n + 1 = omega arith in
    ap (atoms_from place 1) e ∙ atoms_suc place 1 n ∙ ap (λ j. atoms_from place 1 n ++ atom place j ∷ []) f

ints_suc : (lo : ℤ) (n : ℕ) → ints_from lo (suc n) ≡ ints_from lo n ++ int (lo +ℤ pos n) ∷ []
ints_suc lo zero = ap (λ m. int m ∷ []) (omega (arith, ints))
ints_suc lo (suc n) = ap (λ xs. int lo ∷ xs) (ints_suc (lo +ℤ pos 1) n ∙ ap (λ m. ints_from (lo +ℤ pos 1) n ++ int m ∷ []) (omega (arith, ints)))

pub ints_more : (lo : ℤ) (n : ℕ) → ints_from lo (n + 1) ≡ ints_from lo n ++ int (lo +ℤ pos n) ∷ []
ints_more lo n = let e : n + 1 ≡ suc n = omega arith in ap (ints_from lo) e ∙ ints_suc lo n

-- all integers but the last, and the last
pub ints_end : (lo hi : ℤ) (n : ℕ) → lo ≤ℤ hi → lo +ℤ pos n ≡ hi → ints_from lo (integers_within lo hi) ≡ ints_from lo n ++ int hi ∷ []
ints_end lo hi n h e =
    let all : lo +ℤ pos (integers_within lo hi) ≡ hi +ℤ pos 1 = gap_up lo (hi +ℤ pos 1) (omega (arith, ints)) in
    let k : integers_within lo hi ≡ n + 1 = omega (arith, ints, all, e) in
    ap (ints_from lo) k ∙ ints_more lo n ∙ ap (λ m. ints_from lo n ++ int m ∷ []) e
