-- What a sort and a search of values give.
use Rattle.std.proofs.Common.{◌≡◌, ◌∙◌, ℕ, ◌+◌, ◌↔◌, ⊎_elim, Bool, true, false, List, [], ◌∷◌, length, get_or, Result, Ok, Err, refl, sym, ap, subst, arith, IsTrue, is_ok}
use Rattle.std.specs.List.{Contains, AllByRecursion, dedup}
use Rattle.std.specs.List.Sorted.{IsStrictlySortedBy, IsSorted, IsSortedBy, IsBinarySearchResult, IsSearchInRange, IsPermutation}
use Rattle.std.specs.Ordering.{is_lt, eq_by_cmp}
use Rattle.std.specs.Cmp.{eq_by_cmp_equiv}
use Rattle.std.specs.declared.cmp.Ordering.{Ordering}
use Rattle.std.specs.declared.cmp.Ordering.TheVariants.{Less, Equal, Greater}
use Rattle.std.proofs.lemmas.Bool.{cases_lt}
use Rattle.std.proofs.lemmas.List.Kept.{IsStrictlySortedBy-dedup, Contains-dedup, Contains-from_dedup}
use Rattle.std.proofs.lemmas.List.Sorted.{searchable_from_sorted, Contains-permutation, IsPermutation-sym}
use Rattle.eb_value.specs.declared.value.Value.{Value}
use Rattle.eb_value.specs.Values.{compare, is_ascending}
use Rattle.eb_value.specs.Sets.{IsSetOf}
use Rattle.eb_value.proofs.OrderLaws.{reflexive, exact, reversed, compare_total}
use Rattle.eb_value.proofs.Members.{contains_none, contains_cases}
use Rattle.eb_value.proofs.Ascending.{Rises, Below, below_at, rises, ascending}

every : {A : Type 0} (P : A → Type 0) (xs : List A) → AllByRecursion P xs → (v : A) → Contains xs v → P v
every P [] h v m = absurd (contains_none v m)
every P (x ∷ xs) h v m = ⊎_elim (λ e. subst P e h.0) (λ n. every P xs h.1 v n) (contains_cases x xs v m)

strict_rises : (xs : List Value) → IsStrictlySortedBy compare xs → Rises Below xs
unfolding IsStrictlySortedBy
strict_rises [] h = tt
strict_rises (x ∷ xs) h = (every (Below x) xs h.0, strict_rises xs h.1)

equal_by : (v w : Value) (o : Ordering) → compare v w ≡ o → eq_by_cmp compare v w ≡ true → v ≡ w
equal_by v w Less e h = let k : false ≡ true = rw e at h in cc
equal_by v w Equal e h = exact v w e
equal_by v w Greater e h = let k : false ≡ true = rw e at h in cc

-- a sorted list without its doubles is the set of its members
pub sorted_set : (xs ys : List Value) → IsPermutation xs ys → IsSorted compare ys → IsSetOf (Contains xs) (dedup (eq_by_cmp compare) ys)
sorted_set xs ys moved up = record {
  ascending = ascending (dedup (eq_by_cmp compare) ys) (strict_rises (dedup (eq_by_cmp compare) ys) (IsStrictlySortedBy-dedup compare_total (λ v w. refl) ys up));
  members = λ v. (
    λ m. Contains-permutation ys xs v (IsPermutation-sym xs ys moved) (Contains-from_dedup (eq_by_cmp compare) ys v m),
    λ m. Contains-dedup (eq_by_cmp_equiv compare_total) (λ u w h. equal_by u w (compare u w) refl h) ys v (Contains-permutation xs ys v moved m),
  );
}

-- ---- a search

abbrev Lt : Value → Value → Bool
Lt v w = is_lt (compare v w)

sorted : (xs : List Value) → Rises Below xs → IsSortedBy Lt xs
sorted xs h k d low high =
    let below : compare (get_or xs k d) (get_or xs (k + 1) d) ≡ Less = below_at xs h k (k + 1) d (omega arith) high in
    rw (reversed (get_or xs k d) (get_or xs (k + 1) d), below) refl

searched : (xs : List Value) (v : Value) (r : Result ℕ ℕ) → Rises Below xs → IsSearchInRange r (length xs) → IsBinarySearchResult (λ y. compare y v) xs r → (is_ok r ≡ true) ↔ Contains xs v
searched xs v (Ok i) h l found = (λ t. (i, l, exact (get_or xs i v) v (found v)), λ m. refl)
searched xs v (Err i) h l found =
    let parts = found (searchable_from_sorted compare_total (λ y. y) xs v (sorted xs h)) in (
      λ t. let e : false ≡ true = t in cc,
      λ m. absurd (⊎_elim
          (λ low. let e : Equal ≡ Less = sym (reflexive v) ∙ ap (λ w. compare w v) (sym m.2) ∙ parts.0 m.0 v (omega arith) low in cc)
          (λ high. let e : Equal ≡ Greater = sym (reflexive v) ∙ ap (λ w. compare w v) (sym m.2) ∙ parts.1 m.0 v high m.1 in cc)
          (cases_lt m.0 i)),
    )

-- the same of the search's answer and of the slice that it went over
pub search_tells : (xs ys : List Value) (v : Value) (r : Result ℕ ℕ) (b : Bool) → is_ascending xs ≡ true → ys ≡ xs → b ≡ is_ok r → IsSearchInRange r (length ys) → IsBinarySearchResult (λ y. compare y v) ys r → IsTrue b ↔ Contains xs v
search_tells xs ys v r b h e k l found =
    let both = searched ys v r (rises ys (ap is_ascending e ∙ h)) l found in
    (λ t. subst (λ zs. Contains zs v) e (both.0 (sym k ∙ t)), λ m. k ∙ both.1 (subst (λ zs. Contains zs v) (sym e) m))
