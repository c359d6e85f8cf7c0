-- Laws of lists that are made part by part.
use Rattle.std.proofs.Common.{◌≡◌, ◌∙◌, ◌++◌, ◌∷◌, [], ◌+◌, ◌<◌, ◌≤◌, ℕ, zero, suc, List, map, take, drop, get_or, length, refl, sym, ap, arith, append_assoc, append-nil}
use Rattle.std.proofs.lemmas.List.{take_more, drop_more, map-append, take-append-drop, take_all}
use Rattle.std.specs.List.{flat_map}

pub taken_more : {A B : Type 0} (f : A → B) (xs : List A) (i : ℕ) (x : A) → i < length xs → x ≡ get_or xs i x → map f (take (i + 1) xs) ≡ map f (take i xs) ++ f x ∷ []
taken_more f xs i x l e = ap (map f) (take_more xs i x l) ∙ (map-append f (take i xs) (get_or xs i x ∷ []) ∙ ap (λ z. map f (take i xs) ++ f z ∷ []) (sym e))

-- a list is what stands before one of its elements, that element, and the others
pub parts_at : {A B : Type 0} (f : A → B) (xs : List A) (i : ℕ) (x : A) → i < length xs → x ≡ get_or xs i x → map f xs ≡ map f (take i xs) ++ f x ∷ map f (drop (i + 1) xs)
parts_at f xs i x l e =
    ap (map f) (sym (take-append-drop i xs)) ∙ (map-append f (take i xs) (drop i xs) ∙ ap (λ z. map f (take i xs) ++ z) (ap (map f) (drop_more xs i x l) ∙ ap (λ z. f z ∷ map f (drop (i + 1) xs)) (sym e)))

flat_suc : {A B : Type 0} (f : A → List B) (xs : List A) (i : ℕ) (x : A) → i < length xs → x ≡ get_or xs i x → flat_map f (take (suc i) xs) ≡ flat_map f (take i xs) ++ f x
flat_suc f [] i x l e = absurd (omega (arith, l))
flat_suc f (y ∷ xs) zero x l e = append-nil (f y) ∙ ap f (sym e)
flat_suc f (y ∷ xs) (suc i) x l e = ap (λ z. f y ++ z) (flat_suc f xs i x (omega (arith, l)) e) ∙ sym (append_assoc (f y) (flat_map f (take i xs)) (f x))

pub flat_more : {A B : Type 0} (f : A → List B) (xs : List A) (i : ℕ) (x : A) → i < length xs → x ≡ get_or xs i x → flat_map f (take (i + 1) xs) ≡ flat_map f (take i xs) ++ f x
flat_more f xs i x l e = let n : i + 1 ≡ suc i = omega arith in ap (λ z. flat_map f (take z xs)) n ∙ flat_suc f xs i x l e

flat_parts : {A B : Type 0} (f : A → List B) (xs : List A) (i : ℕ) (x : A) → i < length xs → x ≡ get_or xs i x → flat_map f xs ≡ flat_map f (take i xs) ++ (f x ++ flat_map f (drop (suc i) xs))
flat_parts f [] i x l e = absurd (omega (arith, l))
flat_parts f (y ∷ xs) zero x l e = ap (λ z. f z ++ flat_map f xs) (sym e)
flat_parts f (y ∷ xs) (suc i) x l e = ap (λ z. f y ++ z) (flat_parts f xs i x (omega (arith, l)) e) ∙ sym (append_assoc (f y) (flat_map f (take i xs)) (f x ++ flat_map f (drop (suc i) xs)))

-- what is made of all parts is what is made of the first ones, of the next one, and of the others
pub flat_at : {A B : Type 0} (f : A → List B) (xs : List A) (i : ℕ) (x : A) → i < length xs → x ≡ get_or xs i x → (rest : List B) × (flat_map f xs ≡ flat_map f (take i xs) ++ (f x ++ rest))
flat_at f xs i x l e = (flat_map f (drop (suc i) xs), flat_parts f xs i x l e)

pub flat_all : {A B : Type 0} (f : A → List B) (xs : List A) (i : ℕ) → length xs ≤ i → flat_map f (take i xs) ≡ flat_map f xs
flat_all f xs i l = ap (flat_map f) (take_all i xs l)

pub flat_mapped : {A B C : Type 0} (h : B → List C) (k : A → B) (xs : List A) → flat_map h (map k xs) ≡ flat_map (λ x. h (k x)) xs
flat_mapped h k [] = refl
flat_mapped h k (x ∷ xs) = ap (λ z. h (k x) ++ z) (flat_mapped h k xs)
