-- The first and the second of a pair, and the lists of what is taken of pairs.
use Rattle.std.proofs.Common.{◌≡◌, ◌≢◌, ◌∙◌, ⊎_elim, inl, inr, ◌⊎◌, List, [], ◌∷◌, Option, Some, None, refl, sym, ap, subst, rules}
use Rattle.std.specs.List.{Contains, filter_map, flat_map, cons_option}
use Rattle.std.proofs.lemmas.List.Elements.{Contains-append_cases, Contains-append_left, Contains-append_right}
use Rattle.eb_value.specs.declared.value.Value.{Value, the_lemmas}
use Rattle.eb_value.specs.declared.value.Form.TheOpen as val
use Rattle.eb_value.specs.Values.{Layer, layer, rank, rank_of, pair}
use Rattle.eb_value.specs.steps.Merges.{first_of, second_of, first_in, second_in}
use Rattle.eb_value.specs.steps.Joins
use Rattle.eb_value.proofs.Induction.{as_pair}
use Rattle.eb_value.proofs.Members.{contains_none, contains_cases, contains_here, contains_there}

pub first_of-pair : (a b : Value) → first_of (pair a b) ≡ Some a
first_of-pair a b = search (rules, the_lemmas)

pub second_of-pair : (a b : Value) → second_of (pair a b) ≡ Some b
second_of-pair a b = search (rules, the_lemmas)

pub swap-pair : (a b : Value) → Joins.swap_in (layer (pair a b)) ≡ Some (pair b a)
swap-pair a b = search (rules, the_lemmas)

none_in : (f : Layer → Option Value) → ((y : Layer) → rank_of y ≢ 3 → f y ≡ None) → (v : Value) → rank v ≢ 3 → f (layer v) ≡ None
none_in f h v k = h (layer v) k

first_in-other : (y : Layer) → rank_of y ≢ 3 → first_in y ≡ None
first_in-other (val.Pair a b) h = absurd (h refl)
first_in-other y h = refl

second_in-other : (y : Layer) → rank_of y ≢ 3 → second_in y ≡ None
second_in-other (val.Pair a b) h = absurd (h refl)
second_in-other y h = refl

swap_in-other : (y : Layer) → rank_of y ≢ 3 → Joins.swap_in y ≡ None
swap_in-other (val.Pair a b) h = absurd (h refl)
swap_in-other y h = refl

pub first_of-other : (v : Value) → rank v ≢ 3 → first_of v ≡ None
first_of-other v k = first_in-other (layer v) k

pub same_some : {A : Type 0} (a b : A) → Some a ≡ Some b → a ≡ b
same_some a b e = cc

-- a value with a first is a pair
pub with_first : (v a : Value) → first_of v ≡ Some a → (b : Value) × (v ≡ pair a b)
with_first v a = as_pair (λ v. first_of v ≡ Some a → (b : Value) × (v ≡ pair a b))
    (λ c d h. (d, ap (λ z. pair z d) (same_some c a (sym (first_of-pair c d) ∙ h))))
    (λ v k h. let e : None ≡ Some a = sym (first_of-other v k) ∙ h in cc) v

pub with_second : (v b : Value) → second_of v ≡ Some b → (a : Value) × (v ≡ pair a b)
with_second v b = as_pair (λ v. second_of v ≡ Some b → (a : Value) × (v ≡ pair a b))
    (λ c d h. (c, ap (pair c) (same_some d b (sym (second_of-pair c d) ∙ h))))
    (λ v k h. let e : None ≡ Some b = sym (second_in-other (layer v) k) ∙ h in cc) v

pub with_swap : (v w : Value) → Joins.swap_in (layer v) ≡ Some w → (a : Value) × (b : Value) × (v ≡ pair a b) × (w ≡ pair b a)
with_swap v w = as_pair (λ v. Joins.swap_in (layer v) ≡ Some w → (a : Value) × (b : Value) × (v ≡ pair a b) × (w ≡ pair b a))
    (λ c d h. (c, d, refl, sym (same_some (pair d c) w (sym (swap-pair c d) ∙ h))))
    (λ v k h. let e : None ≡ Some w = sym (swap_in-other (layer v) k) ∙ h in cc) v

pub same_pair : (a b c d : Value) → pair a b ≡ pair c d → (a ≡ c) × (b ≡ d)
same_pair a b c d e = (
  same_some a c (sym (first_of-pair a b) ∙ ap first_of e ∙ first_of-pair c d),
  same_some b d (sym (second_of-pair a b) ∙ ap second_of e ∙ second_of-pair c d),
)

-- ---- members of lists that are made from others

module _ {A B : Type 0} (f : A → Option B) where
  option_in : (o : Option B) (rest : List B) (v : B) → Contains (cons_option o rest) v → (o ≡ Some v) ⊎ Contains rest v
  option_in None rest v m = inr m
  option_in (Some b) rest v m = ⊎_elim (λ e. inl (ap Some e)) inr (contains_cases b rest v m)

  in_option : (o : Option B) (rest : List B) (v : B) → (o ≡ Some v) ⊎ Contains rest v → Contains (cons_option o rest) v
  in_option None rest v m = ⊎_elim (λ e. cc) (λ n. n) m
  in_option (Some b) rest v m = ⊎_elim (λ e. contains_here b rest v (same_some b v e)) (contains_there b rest v) m

  pub contains_filter_map : (xs : List A) (v : B) → Contains (filter_map f xs) v → (x : A) × Contains xs x × (f x ≡ Some v)
  contains_filter_map [] v m = absurd (contains_none v m)
  contains_filter_map (x ∷ xs) v m = ⊎_elim
      (λ e. (x, contains_here x xs x refl, e))
      (λ n. let r = contains_filter_map xs v n in (r.0, contains_there x xs r.0 r.1, r.2))
      (option_in (f x) (filter_map f xs) v m)

  pub filter_map_contains : (xs : List A) (x : A) (v : B) → Contains xs x → f x ≡ Some v → Contains (filter_map f xs) v
  filter_map_contains [] x v m e = absurd (contains_none x m)
  filter_map_contains (y ∷ xs) x v m e = in_option (f y) (filter_map f xs) v
      (⊎_elim (λ k. inl (ap f k ∙ e)) (λ n. inr (filter_map_contains xs x v n e)) (contains_cases y xs x m))

module _ {A B : Type 0} (f : A → List B) where
  pub contains_flat_map : (xs : List A) (v : B) → Contains (flat_map f xs) v → (x : A) × Contains xs x × Contains (f x) v
  contains_flat_map [] v m = absurd (contains_none v m)
  contains_flat_map (x ∷ xs) v m = ⊎_elim
      (λ n. (x, contains_here x xs x refl, n))
      (λ n. let r = contains_flat_map xs v n in (r.0, contains_there x xs r.0 r.1, r.2))
      (Contains-append_cases (f x) (flat_map f xs) v m)

  pub flat_map_contains : (xs : List A) (x : A) (v : B) → Contains xs x → Contains (f x) v → Contains (flat_map f xs) v
  flat_map_contains [] x v m n = absurd (contains_none x m)
  flat_map_contains (y ∷ xs) x v m n = ⊎_elim
      (λ e. Contains-append_left (f y) (flat_map f xs) v (subst (λ z. Contains (f z) v) (sym e) n))
      (λ o. Contains-append_right (f y) (flat_map f xs) v (flat_map_contains xs x v o n))
      (contains_cases y xs x m)
