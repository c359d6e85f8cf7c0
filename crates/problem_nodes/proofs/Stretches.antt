-- Lists that stand within a list from a place on.
use Rattle.std.proofs.Common.{◌≡◌, ◌∙◌, refl, sym, ap, ℕ, zero, suc, ◌+◌, ◌<◌, List, [], ◌∷◌, ◌++◌, length, slice_get, Some, append_assoc, append-nil, length-append, zero-add, arith}

pub record Stands {A : Type 0} (xs : List A) (j : ℕ) (middle : List A) : Type 0 where
  pub before : List A
  pub after : List A
  pub is : xs ≡ before ++ (middle ++ after)
  pub at : length before ≡ j

pub stands_first : {A : Type 0} (xs ys : List A) → Stands (xs ++ ys) 0 xs
stands_first xs ys = record { before = []; after = ys; is = refl; at = refl }

pub stands_whole : {A : Type 0} (xs : List A) → Stands xs 0 xs
stands_whole xs = record { before = []; after = []; is = sym (append-nil xs); at = refl }

pub stands_by : {A : Type 0} (xs ys middle : List A) (j : ℕ) → xs ≡ ys → Stands ys j middle → Stands xs j middle
stands_by xs ys middle j e s = record { before = s.before; after = s.after; is = e ∙ s.is; at = s.at }

pub stands_left : {A : Type 0} (xs ys middle : List A) (j : ℕ) → Stands xs j middle → Stands (xs ++ ys) j middle
stands_left xs ys middle j s = record {
  before = s.before;
  after = s.after ++ ys;
  is = ap (λ z. z ++ ys) s.is ∙ append_assoc s.before (middle ++ s.after) ys ∙ ap (λ z. s.before ++ z) (append_assoc middle s.after ys);
  at = s.at;
}

pub stands_right : {A : Type 0} (xs ys middle : List A) (j k : ℕ) → Stands ys j middle → k ≡ length xs + j → Stands (xs ++ ys) k middle
stands_right xs ys middle j k s e = record {
  before = xs ++ s.before;
  after = s.after;
  is = ap (λ z. xs ++ z) s.is ∙ sym (append_assoc xs s.before (middle ++ s.after));
  at = length-append xs s.before ∙ ap (λ n. length xs + n) s.at ∙ sym e;
}

-- of a list that stands within another, its first stretch and what follows that
pub first_stands : {A : Type 0} (xs front back : List A) (j : ℕ) → Stands xs j (front ++ back) → Stands xs j front
first_stands xs front back j s = record {
  before = s.before;
  after = back ++ s.after;
  is = s.is ∙ ap (λ z. s.before ++ z) (append_assoc front back s.after);
  at = s.at;
}

pub second_stands : {A : Type 0} (xs front back : List A) (j k : ℕ) → Stands xs j (front ++ back) → k ≡ j + length front → Stands xs k back
second_stands xs front back j k s e = record {
  before = s.before ++ front;
  after = s.after;
  is = s.is ∙ ap (λ z. s.before ++ z) (append_assoc front back s.after) ∙ sym (append_assoc s.before front (back ++ s.after));
  at = length-append s.before front ∙ ap (λ n. n + length front) s.at ∙ sym e;
}

pub get-first : {A : Type 0} (xs ys : List A) (i : ℕ) (x : A) → slice_get xs i ≡ Some x → slice_get (xs ++ ys) i ≡ Some x
get-first [] ys i x e = cc
get-first (y ∷ xs) ys zero x e = e
get-first (y ∷ xs) ys (suc i) x e = get-first xs ys i x e

pub get-second : {A : Type 0} (xs ys : List A) (i : ℕ) → slice_get (xs ++ ys) (length xs + i) ≡ slice_get ys i
get-second [] ys i = ap (slice_get ys) (zero-add i)
get-second (x ∷ xs) ys i =
    let e : suc (length xs) + i ≡ suc (length xs + i) = omega arith in
    ap (slice_get (x ∷ (xs ++ ys))) e ∙ get-second xs ys i

pub stands_get : {A : Type 0} (xs middle : List A) (j i : ℕ) (x : A) → Stands xs j middle → slice_get middle i ≡ Some x → slice_get xs (j + i) ≡ Some x
stands_get xs middle j i x s e =
    ap (λ z. slice_get z (j + i)) s.is ∙ ap (λ n. slice_get (s.before ++ (middle ++ s.after)) (n + i)) (sym s.at)
    ∙ get-second s.before (middle ++ s.after) i ∙ get-first middle s.after i x e

-- an element of two lists stands in the first, or in the second
pub data IsIn {A : Type 0} (xs ys : List A) (i : ℕ) (x : A) : Type 0 where
  in_first : i < length xs → slice_get xs i ≡ Some x → IsIn xs ys i x
  in_second : (j : ℕ) → i ≡ length xs + j → slice_get ys j ≡ Some x → IsIn xs ys i x

pub is_in : {A : Type 0} (xs ys : List A) (i : ℕ) (x : A) → slice_get (xs ++ ys) i ≡ Some x → IsIn xs ys i x
is_in [] ys i x e = in_second i (omega arith) e
is_in (y ∷ xs) ys zero x e = in_first (omega arith) e
is_in (y ∷ xs) ys (suc i) x e = elim (is_in xs ys i x e) [ in_first l h ↦ in_first (omega arith) h | in_second j q h ↦ in_second j (omega arith) h ]
