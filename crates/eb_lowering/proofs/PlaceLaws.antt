-- The places of identifiers, from the last one on.
use Rattle.std.proofs.Common.{◌≡◌, ◌∙◌, sym, ap, ℕ, [], ◌∷◌, ◌+◌, ◌-◌, ◌<◌, ◌≤◌, true, false, if◌then◌else◌, ◌==◌, List, take, length, Some, None, arith}
use Rattle.std.specs.Prelude.{slice_get}
use Rattle.std.proofs.lemmas.Bool.Decides.{nat_tests}
use Rattle.std.proofs.lemmas.List.Sums.{fold_more}
use Rattle.std.proofs.lemmas.Option.{get_or_from_slice_get, slice_get-get_or}
use Rattle.eb_lowering.specs.declared.around.Place.{Place}
use Rattle.eb_lowering.specs.Lowering.{place_in}

last_place : (ps : List Place) (k i : ℕ) (p : Place) → i < length ps → slice_get ps i ≡ Some p → place_in (take (i + 1) ps) k ≡ (if p.number == k then Some p else place_in (take i ps) k)
last_place ps k i p h e =
    fold_more (λ found q. if q.number == k then Some q else found) None ps i p h
    ∙ ap (λ q. if q.number == k then Some q else place_in (take i ps) k) (get_or_from_slice_get ps i p p e)

is_same : (a b : ℕ) → a ≡ b → (a == b) ≡ true
is_same a b e = grind (arith, nat_tests)

is_other : (a b : ℕ) → (a ≡ b → ⊥) → (a == b) ≡ false
is_other a b e = grind (arith, nat_tests)

counted : (n : ℕ) → 0 < n → n - 1 + 1 ≡ n
counted n h = omega arith

pub found_here : (ps : List Place) (k n : ℕ) (p : Place) → 0 < n → n ≤ length ps → Some p ≡ slice_get ps (n - 1) → p.number ≡ k → place_in (take n ps) k ≡ Some p
found_here ps k n p s h e f =
    ap (λ i. place_in (take i ps) k) (sym (counted n s)) ∙ last_place ps k (n - 1) p (omega arith) (sym e)
    ∙ ap (λ b. if b then Some p else place_in (take (n - 1) ps) k) (is_same p.number k f)

pub not_here : (ps : List Place) (k n : ℕ) (p : Place) → 0 < n → n ≤ length ps → Some p ≡ slice_get ps (n - 1) → (p.number ≡ k → ⊥) → place_in (take n ps) k ≡ place_in (take (n - 1) ps) k
not_here ps k n p s h e f =
    ap (λ i. place_in (take i ps) k) (sym (counted n s)) ∙ last_place ps k (n - 1) p (omega arith) (sym e)
    ∙ ap (λ b. if b then Some p else place_in (take (n - 1) ps) k) (is_other p.number k f)

is_there : (ps : List Place) (i : ℕ) → i < length ps → None ≡ slice_get ps i → ⊥
is_there [] i h e = absurd (omega arith)
is_there (p ∷ ps) i h e = let f = slice_get-get_or (p ∷ ps) i p h in absurd (cc)

pub never_beyond : (ps : List Place) (n : ℕ) → 0 < n → n ≤ length ps → None ≡ slice_get ps (n - 1) → ⊥
never_beyond ps n s h e = is_there ps (n - 1) (omega arith) e
