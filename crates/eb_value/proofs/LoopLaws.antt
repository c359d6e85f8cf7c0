-- One more turn of a loop that adds to a list what it makes of each element.
use Rattle.std.proofs.Common.{◌≡◌, ◌∙◌, ℕ, ◌+◌, ◌<◌, List, [], ◌∷◌, ◌++◌, map, take, length, get_or, refl, sym, ap, append-nil, append_assoc}
use Rattle.std.specs.List.{flat_map}
use Rattle.std.proofs.lemmas.List.{take_more}

-- what a list makes, and with one more element
flat_map_end : {A B : Type 0} (f : A → List B) (xs : List A) (x : A) → flat_map f (xs ++ x ∷ []) ≡ flat_map f xs ++ f x
flat_map_end f [] x = append-nil (f x)
flat_map_end f (y ∷ xs) x = ap (λ ys. f y ++ ys) (flat_map_end f xs x) ∙ sym (append_assoc (f y) (flat_map f xs) (f x))

pub flat_map_on : {A B : Type 0} (f : A → List B) (xs : List A) (i : ℕ) (x : A) (old all : List B) → i < length xs → x ≡ get_or xs i x → old ≡ flat_map f (take i xs) → all ≡ old ++ f x → all ≡ flat_map f (take (i + 1) xs)
flat_map_on f xs i x old all l e o a =
    a ∙ ap (λ ys. ys ++ f x) o ∙ sym (flat_map_end f (take i xs) x) ∙ ap (λ z. flat_map f (take i xs ++ z ∷ [])) e ∙ ap (flat_map f) (sym (take_more xs i x l))

-- the same of the lists that the elements have
joined_map : {A B : Type 0} (f : A → List B) (xs : List A) → flat_map (λ s. s) (map f xs) ≡ flat_map f xs
joined_map f [] = refl
joined_map f (x ∷ xs) = ap (λ ys. f x ++ ys) (joined_map f xs)

pub union_on : {A B : Type 0} (f : A → List B) (xs : List A) (i : ℕ) (x : A) (old all : List B) → i < length xs → x ≡ get_or xs i x → old ≡ flat_map (λ s. s) (map f (take i xs)) → all ≡ old ++ f x → all ≡ flat_map (λ s. s) (map f (take (i + 1) xs))
union_on f xs i x old all l e o a = flat_map_on f xs i x old all l e (o ∙ joined_map f (take i xs)) a ∙ sym (joined_map f (take (i + 1) xs))
