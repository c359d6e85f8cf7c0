-- Laws of names in lists.
use Rattle.std.proofs.Common.{◌≡◌, ℕ, Bool, true, false, List, [], ◌∷◌, map, Contains, length, get_or, ◌<◌, ◌||◌, sym, subst, refl, arith, zero, suc}
use Rattle.std.specs.Prelude.{bytes_eq}
use Rattle.std.proofs.lemmas.Slice.Eq.{bytes_eq-Decides}
use Rattle.eb_scoping.specs.FreeNames.{is_among}
use Rattle.eb_scoping.proofs.ListLaws.{contains_here, contains_there}

-- a list of the names that stand behind these has a name that one of them has
pub among_at : {A : Type 0} (f : A → List ℕ) (xs : List A) (i : ℕ) (x : A) (name : List ℕ) → i < length xs → x ≡ get_or xs i x → bytes_eq (f x) name ≡ true → true ≡ is_among (map f xs) name
among_at f [] i x name l e t = absurd (omega (arith, l))
among_at f (y ∷ ys) zero x name l e t = rw (sym e) (rw t refl)
among_at f (y ∷ ys) (suc i) x name l e t = rw (sym (among_at f ys i x name (omega (arith, l)) e t)) (among_or (bytes_eq (f y) name))
  where
    among_or : (b : Bool) → true ≡ (b || true)
    among_or true = refl
    among_or false = refl

among_by : (x q : List ℕ) (xs : List (List ℕ)) (b : Bool) → bytes_eq x q ≡ b → (is_among xs q ≡ true → Contains xs q) → (b || is_among xs q) ≡ true → Contains (x ∷ xs) q
among_by x q xs true e ih t = subst (λ z. Contains (x ∷ xs) z) ((bytes_eq-Decides x q).0 e) (contains_here x xs)
among_by x q xs false e ih t = contains_there x xs q (ih t)

pub among_contains : (xs : List (List ℕ)) (q : List ℕ) → is_among xs q ≡ true → Contains xs q
among_contains [] q h = absurd cc
among_contains (x ∷ xs) q h = among_by x q xs (bytes_eq x q) refl (among_contains xs q) h
