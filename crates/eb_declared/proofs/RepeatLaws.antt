-- Laws of lists in which nothing repeats.
use Rattle.std.proofs.Common.{◌≡◌, ◌∙◌, ◌⊎◌, ◌++◌, ◌∷◌, [], ◌+◌, ◌<◌, ℕ, List, map, take, drop, get_or, length, refl, sym, ap, subst, inl, inr, ⊎_elim, Contains}
use Rattle.std.proofs.lemmas.List.{take_more, drop_more, map-append, take-append-drop}
use Rattle.eb_declared.specs.Declarations.{Declaration, AreApart, AreDistinct, Repeats}

ends_none : {A : Type 0} (bs : List A) (d : A) (rest : List A) → [] ≡ bs ++ d ∷ rest → ⊥
ends_none [] d rest e = cc
ends_none (b ∷ bs) d rest e = cc

head_tail : {A : Type 0} (x y : A) (xs ys : List A) → x ∷ xs ≡ y ∷ ys → (x ≡ y) × (xs ≡ ys)
head_tail x y xs ys e = (cc, cc)

-- the last element of a list is the one that a split finds, or the split is one of what stands before it
pub split_last : {A : Type 0} (xs before rest : List A) (d d' : A) → xs ++ d ∷ [] ≡ before ++ d' ∷ rest → ((xs ≡ before) × (d ≡ d')) ⊎ ((rest' : List A) × (xs ≡ before ++ d' ∷ rest'))
split_last [] [] rest d d' e = inl (refl, (head_tail d d' [] rest e).0)
split_last (y ∷ ys) [] rest d d' e = inr (ys, ap (λ z. z ∷ ys) (head_tail y d' (ys ++ d ∷ []) rest e).0)
split_last [] (b ∷ bs) rest d d' e = absurd (ends_none bs d' rest (head_tail d b [] (bs ++ d' ∷ rest) e).1)
split_last (y ∷ ys) (b ∷ bs) rest d d' e =
    let h = head_tail y b (ys ++ d ∷ []) (bs ++ d' ∷ rest) e in
    ⊎_elim
    (λ s. inl (ap (λ z. z ∷ ys) h.0 ∙ ap (λ z. b ∷ z) s.0, s.1))
    (λ s. inr (s.0, ap (λ z. z ∷ ys) h.0 ∙ ap (λ z. b ∷ z) s.1))
    (split_last ys bs rest d d' h.1)

pub distinct_more : (xs : List Declaration) (d : Declaration) → AreDistinct xs → ((name : List ℕ) → Repeats xs d name → ⊥) → AreDistinct (xs ++ d ∷ [])
distinct_more xs d a n before rest d' name e r = ⊎_elim
    (λ s. n name (subst (λ z. Repeats xs z name) (sym s.1) (subst (λ z. Repeats z d' name) (sym s.0) r)))
    (λ s. a before s.0 d' name s.1 r)
    (split_last xs before rest d d' e)

pub apart_more : (xs : List (List ℕ)) (x : List ℕ) → AreApart xs → (Contains xs x → ⊥) → AreApart (xs ++ x ∷ [])
apart_more xs x a n y front rest e r = ⊎_elim
    (λ s. n (subst (λ z. Contains xs z) (sym s.1) (subst (λ z. Contains z y) (sym s.0) r)))
    (λ s. a y front s.0 s.1 r)
    (split_last xs front rest x y e)

pub distinct_none : AreDistinct []
distinct_none before rest d name e r = ends_none before d rest e

pub apart_none : AreApart []
apart_none y front rest e r = ends_none front y rest e

pub taken_more : {A B : Type 0} (f : A → B) (xs : List A) (i : ℕ) (x : A) → i < length xs → x ≡ get_or xs i x → map f (take (i + 1) xs) ≡ map f (take i xs) ++ f x ∷ []
taken_more f xs i x l e = ap (map f) (take_more xs i x l) ∙ (map-append f (take i xs) (get_or xs i x ∷ []) ∙ ap (λ z. map f (take i xs) ++ f z ∷ []) (sym e))

-- a list is what stands before one of its elements, that element, and the others
pub parts_at : {A B : Type 0} (f : A → B) (xs : List A) (i : ℕ) (x : A) → i < length xs → x ≡ get_or xs i x → map f xs ≡ map f (take i xs) ++ f x ∷ map f (drop (i + 1) xs)
parts_at f xs i x l e =
    ap (map f) (sym (take-append-drop i xs)) ∙ (map-append f (take i xs) (drop i xs) ∙ ap (λ z. map f (take i xs) ++ z) (ap (map f) (drop_more xs i x l) ∙ ap (λ z. f z ∷ map f (drop (i + 1) xs)) (sym e)))
