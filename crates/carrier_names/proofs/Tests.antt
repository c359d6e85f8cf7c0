-- Facts of tests, and of tests of each of a list.
use Rattle.std.proofs.Common.{◌≡◌, ◌∙◌, Bool, true, false, ◌&&◌, ◌||◌, List, [], ◌∷◌, ◌++◌, refl}
use Rattle.std.specs.List.{list_all}
use Rattle.std.proofs.lemmas.List.Folds.{list_all-append}

pub both_true : (a b : Bool) → (a && b) ≡ true → (a ≡ true) × (b ≡ true)
both_true true b e = (refl, e)
both_true false b e = absurd cc

pub are_true : (a b : Bool) → a ≡ true → b ≡ true → (a && b) ≡ true
are_true true b h g = g
are_true false b h g = absurd cc

pub or_right : (a b : Bool) → b ≡ true → (a || b) ≡ true
or_right true b h = refl
or_right false b h = h

-- what passes one test of each of a list passes another
pub all_weaker : {X : Type 0} (p q : X → Bool) → ((x : X) → p x ≡ true → q x ≡ true) → (xs : List X) → list_all p xs ≡ true → list_all q xs ≡ true
all_weaker p q h [] e = refl
all_weaker p q h (x ∷ xs) e = let parts = both_true (p x) (list_all p xs) e in are_true (q x) (list_all q xs) (h x parts.0) (all_weaker p q h xs parts.1)

pub all_joined : {X : Type 0} (p : X → Bool) (xs ys : List X) → list_all p xs ≡ true → list_all p ys ≡ true → list_all p (xs ++ ys) ≡ true
all_joined p xs ys h g = list_all-append p xs ys ∙ are_true (list_all p xs) (list_all p ys) h g
