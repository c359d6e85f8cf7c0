-- What the products of relations have.
use Rattle.std.proofs.Common.{◌≡◌, ◌≢◌, ◌∙◌, ℕ, zero, suc, ◌-◌, ◌<◌, ◌≤◌, ◌↔◌, ⊎_elim, inl, inr, ◌⊎◌, Bool, true, false, List, [], ◌∷◌, take, drop, length, get_or, filter, Some, None, refl, sym, ap, subst, arith, rules}
use Rattle.std.specs.List.{Contains, AllWithin, filter_map}
use Rattle.std.specs.List.Sorted.{IsPartitionedBy}
use Rattle.std.specs.Ordering.{is_eq, is_lt, is_le}
use Rattle.std.specs.declared.cmp.Ordering.{Ordering}
use Rattle.std.specs.declared.cmp.Ordering.TheVariants.{Less, Equal, Greater}
use Rattle.std.proofs.lemmas.Bool.{cases_lt}
use Rattle.eb_value.specs.declared.value.Value.{Value, the_lemmas}
use Rattle.eb_value.specs.declared.value.Form.TheOpen as val
use Rattle.eb_value.specs.declared.products.Join.{Join}
use Rattle.eb_value.specs.declared.products.Join.TheVariants as join
use Rattle.eb_value.specs.Values.{Layer, layer, rank, rank_of, pair, compare, is_ascending}
use Rattle.eb_value.specs.Sets.{IsSetOf}
use Rattle.eb_value.specs.Relations
use Rattle.eb_value.specs.Scopes.{pairs}
use Rattle.eb_value.specs.steps.Merges.{first_of}
use Rattle.eb_value.specs.steps.Joins
use Rattle.eb_value.proofs.OrderLaws.{reflexive, exact, reversed, transitive, compare-pair, rank_up}
use Rattle.eb_value.proofs.Induction.{as_pair, rank-pair}
use Rattle.eb_value.proofs.Members.{contains_none}
use Rattle.eb_value.proofs.Ascending.{Rises, Below, rises, below_at, contains_filter}
use Rattle.eb_value.proofs.MergeLaws.{same_set, set_from}
use Rattle.eb_value.proofs.ValsLaws.{rises-pairs, contains_pairs, pairs_contain}
use Rattle.eb_value.proofs.PairLaws.{first_of-pair, with_first, same_some, contains_filter_map, filter_map_contains, contains_flat_map, flat_map_contains}
use Rattle.eb_value.proofs.RelationLaws.{then_first}

pub cross_set : (xs ys : List Value) → is_ascending xs ≡ true → is_ascending ys ≡ true → IsSetOf (Relations.InCross xs ys) (pairs xs ys)
cross_set xs ys h k = set_from (Relations.InCross xs ys) (pairs xs ys) (rises-pairs xs ys (rises xs h) (rises ys k))
    (λ v. (contains_pairs xs ys v, λ m. subst (Contains (pairs xs ys)) (sym m.2) (pairs_contain xs ys m.0 m.1 m.3 m.4)))

-- ---- the side of a value

pub side-pair : (k a b : Value) → Joins.side k (pair a b) ≡ compare a k
side-pair k a b = search (rules, the_lemmas)

side_in-low : (k : Value) (y : Layer) → rank_of y < 3 → Joins.side_in k y ≡ Less
side_in-low k (val.Pair a b) h = absurd (omega arith)
side_in-low k (val.Set xs) h = absurd (omega arith)
side_in-low k y h = refl

side_in-high : (k : Value) (y : Layer) → 3 < rank_of y → Joins.side_in k y ≡ Greater
side_in-high k (val.Set xs) h = refl
side_in-high k y h = absurd (omega arith)

side_not_pair : (k v : Value) → rank v ≢ 3 → (rank v < 3) ⊎ (3 < rank v)
side_not_pair k v h = ⊎_elim inl (λ u. inr (omega arith)) (cases_lt (rank v) 3)

upto_right : (a c k : Value) → (a ≡ c) ⊎ Below a c → compare a k ≡ Greater → compare c k ≡ Greater
upto_right a c k u h = ⊎_elim (λ e. ap (λ z. compare z k) (sym e) ∙ h)
    (λ b. let below : Below k a = reversed a k ∙ rw h refl in reversed k c ∙ rw (transitive k a c below b) refl) u

upto_left : (a c k : Value) → (a ≡ c) ⊎ Below a c → compare c k ≡ Less → compare a k ≡ Less
upto_left a c k u h = ⊎_elim (λ e. ap (λ z. compare z k) e ∙ h) (λ b. transitive a c k b h) u

firsts_up : (a b c d : Value) → Below (pair a b) (pair c d) → (a ≡ c) ⊎ Below a c
firsts_up a b c d h = then_first a b c d (compare a c) refl (sym (compare-pair a b c d) ∙ h)

-- sides do not fall
side_stays : (k v w : Value) → Below v w → Joins.side k v ≡ Greater → Joins.side k w ≡ Greater
side_stays k v w = as_pair (λ v. Below v w → Joins.side k v ≡ Greater → Joins.side k w ≡ Greater)
    (λ a b. as_pair (λ w. Below (pair a b) w → Joins.side k (pair a b) ≡ Greater → Joins.side k w ≡ Greater)
    (λ c d h e. side-pair k c d ∙ upto_right a c k (firsts_up a b c d h) (sym (side-pair k a b) ∙ e))
    (λ w n h e. side_in-high k (layer w) (omega (arith, rank_up (pair a b) w h, rank-pair a b, n))) w)
    (λ v n h e. ⊎_elim
    (λ l. let f : Less ≡ Greater = sym (side_in-low k (layer v) l) ∙ e in cc)
    (λ u. side_in-high k (layer w) (omega (arith, rank_up v w h, u)))
    (side_not_pair k v n)) v

side_was : (k v w : Value) → Below v w → Joins.side k w ≡ Less → Joins.side k v ≡ Less
side_was k v w = as_pair (λ v. Below v w → Joins.side k w ≡ Less → Joins.side k v ≡ Less)
    (λ a b. as_pair (λ w. Below (pair a b) w → Joins.side k w ≡ Less → Joins.side k (pair a b) ≡ Less)
    (λ c d h e. side-pair k a b ∙ upto_left a c k (firsts_up a b c d h) (sym (side-pair k c d) ∙ e))
    (λ w n h e. let f : Greater ≡ Less = sym (side_in-high k (layer w) (omega (arith, rank_up (pair a b) w h, rank-pair a b, n))) ∙ e in cc) w)
    (λ v n h e. ⊎_elim
    (λ l. side_in-low k (layer v) l)
    (λ u. let f : Greater ≡ Less = sym (side_in-high k (layer w) (omega (arith, rank_up v w h, u))) ∙ e in cc)
    (side_not_pair k v n)) v

pub side_between : (k u v w : Value) → Below u v → Below v w → Joins.side k u ≡ Equal → Joins.side k w ≡ Equal → Joins.side k v ≡ Equal
side_between k u v w a b p q = between (Joins.side k v) refl where
  between : (o : Ordering) → Joins.side k v ≡ o → Joins.side k v ≡ Equal
  between Equal e = e
  between Less e = let f : Equal ≡ Less = sym p ∙ side_was k u v a e in cc
  between Greater e = let f : Equal ≡ Greater = sym q ∙ side_stays k v w b e in cc

pub side_equal : (k v : Value) → Joins.side k v ≡ Equal → first_of v ≡ Some k
side_equal k v = as_pair (λ v. Joins.side k v ≡ Equal → first_of v ≡ Some k)
    (λ a b h. first_of-pair a b ∙ ap Some (exact a k (sym (side-pair k a b) ∙ h)))
    (λ v n h. ⊎_elim
    (λ l. let f : Less ≡ Equal = sym (side_in-low k (layer v) l) ∙ h in cc)
    (λ u. let f : Greater ≡ Equal = sym (side_in-high k (layer v) u) ∙ h in cc)
    (side_not_pair k v n)) v

pub equal_side : (k v : Value) → first_of v ≡ Some k → Joins.side k v ≡ Equal
equal_side k v h = let p = with_first v k h in ap (Joins.side k) p.1 ∙ side-pair k k p.0 ∙ reflexive k

eq_so : (o : Ordering) → is_eq o ≡ true → o ≡ Equal
eq_so Equal h = refl
eq_so Less h = cc
eq_so Greater h = cc

pub image_in : (k : Value) (s : List Value) (w : Value) → Contains (Joins.images k s) w → Contains s w × (first_of w ≡ Some k)
image_in k s w m = let f = (contains_filter (λ v. is_eq (Joins.side k v)) s w).0 m in (f.0, side_equal k w (eq_so (Joins.side k w) f.1))

pub in_image : (k : Value) (s : List Value) (w : Value) → Contains s w → first_of w ≡ Some k → Contains (Joins.images k s) w
in_image k s w m h = (contains_filter (λ v. is_eq (Joins.side k v)) s w).1 (m, ap is_eq (equal_side k w h))

-- ---- where the pairs with a first stand

not_gt : (o : Ordering) → is_le o ≡ true → o ≡ Greater → ⊥
not_gt Less h e = cc
not_gt Equal h e = cc
not_gt Greater h e = cc

le_so : (o : Ordering) → (o ≡ Greater → ⊥) → is_le o ≡ true
le_so Less h = refl
le_so Equal h = refl
le_so Greater h = absurd (h refl)

lt_so : (o : Ordering) → is_lt o ≡ true → o ≡ Less
lt_so Less h = refl
lt_so Equal h = cc
lt_so Greater h = cc

module _ (s : List Value) (h : Rises Below s) (k : Value) where
  by_place : (P : Value → Type 0) → ((v w : Value) → Below v w → P w → P v) → (i j : ℕ) (d : Value) → i ≤ j → j < length s → P (get_or s j d) → P (get_or s i d)
  by_place P down i j d l m p = ⊎_elim (λ b. down (get_or s i d) (get_or s j d) (below_at s h i j d b m) p) (λ b. subst (λ n. P (get_or s n d)) (omega arith) p) (cases_lt i j)

  pub lt_partitioned : IsPartitionedBy (λ v. is_lt (Joins.side k v)) s
  lt_partitioned = by_place (λ v. is_lt (Joins.side k v) ≡ true) (λ v w b p. ap is_lt (side_was k v w b (lt_so (Joins.side k w) p)))

  pub le_partitioned : IsPartitionedBy (λ v. is_le (Joins.side k v)) s
  le_partitioned = by_place (λ v. is_le (Joins.side k v) ≡ true) (λ v w b p. le_so (Joins.side k v) (λ g. not_gt (Joins.side k w) p (side_stays k v w b g)))

-- what passes a test from one place to another, and nowhere else
pub slice_filter : {A : Type 0} (p : A → Bool) (xs : List A) (i j : ℕ) → i ≤ j → j ≤ length xs → AllWithin (λ x. p x ≡ false) xs 0 i → AllWithin (λ x. p x ≡ true) xs i j → AllWithin (λ x. p x ≡ false) xs j (length xs) → filter p xs ≡ take (j - i) (drop i xs)
slice_filter p [] zero zero h k a b c = refl
slice_filter p [] zero (suc j) h k a b c = absurd (omega arith)
slice_filter p [] (suc i) j h k a b c = absurd (omega arith)
slice_filter p (x ∷ xs) zero zero h k a b c =
    let first : p x ≡ false = c 0 x (omega arith) (omega arith) in
    let later : filter p xs ≡ take (0 - 0) (drop 0 xs) = slice_filter p xs zero zero (omega arith) (omega arith) (λ n d l m. absurd (omega arith)) (λ n d l m. absurd (omega arith)) (λ n d l m. c (suc n) d (omega arith) (omega arith)) in
    rw first later
slice_filter p (x ∷ xs) zero (suc j) h k a b c =
    let first : p x ≡ true = b 0 x (omega arith) (omega arith) in
    let later : filter p xs ≡ take (j - 0) (drop 0 xs) = slice_filter p xs zero j (omega arith) (omega arith) (λ n d l m. absurd (omega arith)) (λ n d l m. b (suc n) d (omega arith) (omega arith)) (λ n d l m. c (suc n) d (omega arith) (omega arith)) in
    let e : suc j - 0 ≡ suc (j - 0) = omega arith in
    rw (first, e) (ap (λ r. x ∷ r) later)
slice_filter p (x ∷ xs) (suc i) zero h k a b c = absurd (omega arith)
slice_filter p (x ∷ xs) (suc i) (suc j) h k a b c =
    let first : p x ≡ false = a 0 x (omega arith) (omega arith) in
    let later : filter p xs ≡ take (j - i) (drop i xs) = slice_filter p xs i j (omega arith) (omega arith) (λ n d l m. a (suc n) d (omega arith) (omega arith)) (λ n d l m. b (suc n) d (omega arith) (omega arith)) (λ n d l m. c (suc n) d (omega arith) (omega arith)) in
    let e : suc j - suc i ≡ j - i = omega arith in
    rw (first, e) later

eq_of : (o : Ordering) → is_lt o ≡ false → is_le o ≡ true → is_eq o ≡ true
eq_of Less h k = cc
eq_of Equal h k = refl
eq_of Greater h k = cc

lt_not_eq : (o : Ordering) → is_lt o ≡ true → is_eq o ≡ false
lt_not_eq Less h = refl
lt_not_eq Equal h = cc
lt_not_eq Greater h = cc

gt_not_eq : (o : Ordering) → is_le o ≡ false → is_eq o ≡ false
gt_not_eq Less h = cc
gt_not_eq Equal h = cc
gt_not_eq Greater h = refl

lt_le : (o : Ordering) → is_lt o ≡ true → is_le o ≡ false → ⊥
lt_le Less h k = cc
lt_le Equal h k = cc
lt_le Greater h k = cc

module _ (s : List Value) (k : Value) (i j : ℕ) (m : i ≤ length s) (n : j ≤ length s)
    (under : AllWithin (λ v. is_lt (Joins.side k v) ≡ true) s 0 i) (not_under : AllWithin (λ v. is_lt (Joins.side k v) ≡ false) s i (length s))
    (upto : AllWithin (λ v. is_le (Joins.side k v) ≡ true) s 0 j) (past : AllWithin (λ v. is_le (Joins.side k v) ≡ false) s j (length s)) where
  pub places_up : i ≤ j
  places_up = ⊎_elim (λ l. absurd (lt_le (Joins.side k (get_or s j k)) (under j k (omega arith) l) (past j k (omega arith) (omega arith)))) (λ l. l) (cases_lt j i)

  pub images_slice : take (j - i) (drop i s) ≡ Joins.images k s
  images_slice = sym (slice_filter (λ v. is_eq (Joins.side k v)) s i j places_up n
      (λ q d a b. lt_not_eq (Joins.side k (get_or s q d)) (under q d a b))
      (λ q d a b. eq_of (Joins.side k (get_or s q d)) (not_under q d a (omega arith)) (upto q d (omega arith) b))
      (λ q d a b. gt_not_eq (Joins.side k (get_or s q d)) (past q d a b)))

-- ---- joins

abbrev Joined : Join → List Value → List Value → Value → Type 0
Joined j r s v = (x : Value) × (y : Value) × (u : Value) × (z : Value) × (v ≡ Joins.join_of j x y u z) × Relations.Relates r x y × Contains (Joins.partners j x y s) (pair u z)

join_with-pair : (j : Join) (x y u z : Value) → Joins.join_with j x y (pair u z) ≡ Some (Joins.join_of j x y u z)
join_with-pair j x y u z = search (rules, the_lemmas)

join_in-other : (j : Join) (x y : Value) (l : Layer) → rank_of l ≢ 3 → Joins.join_in j x y l ≡ None
join_in-other j x y (val.Pair u z) h = absurd (h refl)
join_in-other j x y l h = refl

with_join : (j : Join) (x y w v : Value) → Joins.join_with j x y w ≡ Some v → (u : Value) × (z : Value) × (w ≡ pair u z) × (v ≡ Joins.join_of j x y u z)
with_join j x y w v = as_pair (λ w. Joins.join_with j x y w ≡ Some v → (u : Value) × (z : Value) × (w ≡ pair u z) × (v ≡ Joins.join_of j x y u z))
    (λ u z h. (u, z, refl, sym (same_some (Joins.join_of j x y u z) v (sym (join_with-pair j x y u z) ∙ h))))
    (λ w n h. let e : None ≡ Some v = sym (join_in-other j x y (layer w) n) ∙ h in cc) w

joins_in-pair : (j : Join) (s : List Value) (x y : Value) → Joins.joins_in j s (layer (pair x y)) ≡ filter_map (Joins.join_with j x y) (Joins.partners j x y s)
joins_in-pair j s x y = search (rules, the_lemmas)

joins_in-other : (j : Join) (s : List Value) (l : Layer) → rank_of l ≢ 3 → Joins.joins_in j s l ≡ []
joins_in-other j s (val.Pair x y) h = absurd (h refl)
joins_in-other j s l h = refl

joins_at : (j : Join) (r s : List Value) (v w : Value) → Contains r w → Contains (Joins.joins_in j s (layer w)) v → Joined j r s v
joins_at j r s v w = as_pair (λ w. Contains r w → Contains (Joins.joins_in j s (layer w)) v → Joined j r s v)
    (λ x y m n.
    let f = contains_filter_map (Joins.join_with j x y) (Joins.partners j x y s) v (subst (λ xs. Contains xs v) (joins_in-pair j s x y) n) in
    let p = with_join j x y f.0 v f.2 in
    (x, y, p.0, p.1, p.3, m, subst (Contains (Joins.partners j x y s)) p.2 f.1))
    (λ w k m n. absurd (contains_none v (subst (λ xs. Contains xs v) (joins_in-other j s (layer w) k) n))) w

joins_members : (j : Join) (r s : List Value) (v : Value) → Contains (Joins.joins j r s) v ↔ Joined j r s v
joins_members j r s v = (
  λ m. let f = contains_flat_map (λ w. Joins.joins_in j s (layer w)) r v m in joins_at j r s v f.0 f.1 f.2,
  λ m. flat_map_contains (λ w. Joins.joins_in j s (layer w)) r (pair m.0 m.1) v m.5
      (subst (λ xs. Contains xs v) (sym (joins_in-pair j s m.0 m.1))
      (filter_map_contains (Joins.join_with j m.0 m.1) (Joins.partners j m.0 m.1 s) (pair m.2 m.3) v m.6 (join_with-pair j m.0 m.1 m.2 m.3 ∙ ap Some (sym m.4)))),
)

partner : (k u z : Value) (s : List Value) → Contains (Joins.images k s) (pair u z) → Relations.Relates s k z
partner k u z s m = let f = image_in k s (pair u z) m in subst (λ x. Contains s (pair x z)) (same_some u k (sym (first_of-pair u z) ∙ f.1)) f.0

pub direct_set : (r s all : List Value) → IsSetOf (Contains (Joins.joins join.Direct r s)) all → IsSetOf (Relations.InDirect r s) all
direct_set r s all = same_set (Contains (Joins.joins join.Direct r s)) (Relations.InDirect r s) all
    (λ v. (
      λ m. let q = (joins_members join.Direct r s v).0 m in (q.0, q.1, q.3, q.4, q.5, partner q.0 q.2 q.3 s q.6),
      λ m. (joins_members join.Direct r s v).1 (m.0, m.1, m.0, m.2, m.3, m.4, in_image m.0 s (pair m.0 m.2) m.5 (first_of-pair m.0 m.2)),
    ))

pub parallel_set : (r s all : List Value) → IsSetOf (Contains (Joins.joins join.Parallel r s)) all → IsSetOf (Relations.InParallel r s) all
parallel_set r s all = same_set (Contains (Joins.joins join.Parallel r s)) (Relations.InParallel r s) all (joins_members join.Parallel r s)
