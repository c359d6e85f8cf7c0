-- The comprehensions have the members that the operators are said to have.
use Rattle.std.proofs.Common.{◌≡◌, ◌≢◌, ◌∙◌, ◌↔◌, ⊎_elim, inl, inr, ◌⊎◌, Bool, true, false, not, ◌&&◌, ◌||◌, if◌then◌else◌, List, [], ◌∷◌, ◌++◌, map, filter, Option, Some, None, IsNone, IfSome, IsTrue, Result, IfOk, refl, sym, ap, subst, rules}
use Rattle.std.specs.List.{Contains, list_all, flat_map}
use Rattle.std.specs.Ordering.{is_eq, is_lt}
use Rattle.std.specs.Cmp.{second_so, both_ways}
use Rattle.std.specs.declared.cmp.Ordering.{Ordering}
use Rattle.std.specs.declared.cmp.Ordering.TheVariants.{Less, Equal, Greater}
use Rattle.std.proofs.lemmas.List.Elements.{Contains-append_cases, Contains-append_left, Contains-append_right}
use Rattle.std.proofs.lemmas.Result.{IfOk-weaker}
use Rattle.eb_value.specs.declared.value.Value.{Value, the_lemmas}
use Rattle.eb_value.specs.declared.value.Form.TheOpen as val
use Rattle.eb_value.specs.Values.{Layer, layer, rank_of, pair, compare}
use Rattle.eb_value.specs.Sets.{IsSetOf, InUnion, InMeet, InMinus}
use Rattle.eb_value.specs.Relations as in_relation
use Rattle.eb_value.specs.Comprehensions as set
use Rattle.eb_value.specs.Comprehensions.{Maplet}
use Rattle.eb_value.proofs.OrderLaws.{reflexive, exact, reversed, transitive}
use Rattle.eb_value.proofs.Induction.{as_pair}
use Rattle.eb_value.proofs.Members.{contains_none, contains_cases, contains_here, contains_there}
use Rattle.eb_value.proofs.Ascending.{Rises, Below, first_true as first_so, rises, same_members, contains_map, map_contains, contains_filter}
use Rattle.eb_value.proofs.MergeLaws.{same_set, set_from}
use Rattle.eb_value.proofs.PairLaws.{same_some, same_pair, contains_filter_map, filter_map_contains, contains_flat_map, flat_map_contains}

-- ---- one value against a list

so_equal : (o : Ordering) → is_eq o ≡ true → o ≡ Equal
so_equal Equal h = refl
so_equal Less h = cc
so_equal Greater h = cc

same_is : (v w : Value) → set.same v w ≡ true → v ≡ w
same_is v w h = exact v w (so_equal (compare v w) h)

is_same : (v : Value) → set.same v v ≡ true
is_same v = ap is_eq (reflexive v)

or_later : (b c : Bool) → b ≡ false → (b || c) ≡ true → c ≡ true
or_later true c e h = cc
or_later false c e h = h

or_so : (b c : Bool) → c ≡ true → (b || c) ≡ true
or_so true c h = refl
or_so false c h = h

or_first : (b c : Bool) → b ≡ true → (b || c) ≡ true
or_first true c h = refl
or_first false c h = cc

has_at : (w : Value) (s : List Value) (v : Value) (b : Bool) → set.same v w ≡ b → (set.has s v ≡ true → Contains s v) → (set.same v w || set.has s v) ≡ true → Contains (w ∷ s) v
has_at w s v true e later h = contains_here w s v (sym (same_is v w e))
has_at w s v false e later h = contains_there w s v (later (or_later (set.same v w) (set.has s v) e h))

pub has_contains : (s : List Value) (v : Value) → set.has s v ≡ true → Contains s v
has_contains [] v h = cc
has_contains (w ∷ s) v h = has_at w s v (set.same v w) refl (has_contains s v) h

pub contains_has : (s : List Value) (v : Value) → Contains s v → set.has s v ≡ true
contains_has [] v m = absurd (contains_none v m)
contains_has (w ∷ s) v m = ⊎_elim
    (λ e. or_first (set.same v w) (set.has s v) (ap (set.same v) e ∙ is_same v))
    (λ n. or_so (set.same v w) (set.has s v) (contains_has s v n))
    (contains_cases w s v m)

pub has_is : (s : List Value) (v : Value) (b : Bool) → IsTrue b ↔ Contains s v → b ≡ set.has s v
has_is s v b h = both_ways b (set.has s v) (λ e. contains_has s v (h.0 e)) (λ e. h.1 (has_contains s v e))

not_has : (s : List Value) (v : Value) → (Contains s v → ⊥) → not (set.has s v) ≡ true
not_has s v n = at (set.has s v) refl where
  at : (b : Bool) → set.has s v ≡ b → not b ≡ true
  at true e = absurd (n (has_contains s v e))
  at false e = refl

has_not : (s : List Value) (v : Value) → not (set.has s v) ≡ true → Contains s v → ⊥
has_not s v h m = let k : not (set.has s v) ≡ false = rw (contains_has s v m) refl in let e : false ≡ true = sym k ∙ h in cc

-- ---- the set of a list

above : (v w : Value) → compare v w ≡ Greater → Below w v
above v w h = reversed v w ∙ rw h refl

-- by the order of a value and the first of the list into which it is put
module _ (v w : Value) (ws : List Value) where
  put_cases : (P : List Value → Type 0) → (Below v w → P (v ∷ w ∷ ws)) → (v ≡ w → P (w ∷ ws)) → (Below w v → P (w ∷ set.insert v ws)) → P (set.insert v (w ∷ ws))
  put_cases P f g k = at (compare v w) refl where
    at : (o : Ordering) → compare v w ≡ o → P (if is_lt (compare v w) then (v ∷ w ∷ ws) else (if set.same v w then (w ∷ ws) else (w ∷ set.insert v ws)))
    at Less e = rw e (f e)
    at Equal e = rw e (g (exact v w e))
    at Greater e = rw e (k (above v w e))

put_in : (v : Value) (ws : List Value) (u : Value) → Contains (set.insert v ws) u → (v ≡ u) ⊎ Contains ws u
put_in v [] u m = contains_cases v [] u m
put_in v (w ∷ ws) u m = put_cases v w ws (λ xs. Contains xs u → (v ≡ u) ⊎ Contains (w ∷ ws) u)
    (λ b n. contains_cases v (w ∷ ws) u n)
    (λ e n. inr n)
    (λ b n. ⊎_elim (λ e. inr (contains_here w ws u e)) (λ o. ⊎_elim inl (λ q. inr (contains_there w ws u q)) (put_in v ws u o)) (contains_cases w (set.insert v ws) u n)) m

in_put : (v : Value) (ws : List Value) (u : Value) → (v ≡ u) ⊎ Contains ws u → Contains (set.insert v ws) u
in_put v [] u m = ⊎_elim (contains_here v [] u) (λ n. absurd (contains_none u n)) m
in_put v (w ∷ ws) u m = put_cases v w ws (λ xs. Contains xs u)
    (λ b. ⊎_elim (contains_here v (w ∷ ws) u) (contains_there v (w ∷ ws) u) m)
    (λ e. ⊎_elim (λ f. contains_here w ws u (sym e ∙ f)) (λ n. n) m)
    (λ b. ⊎_elim (λ e. contains_there w (set.insert v ws) u (in_put v ws u (inl e)))
    (λ n. ⊎_elim (contains_here w (set.insert v ws) u) (λ o. contains_there w (set.insert v ws) u (in_put v ws u (inr o))) (contains_cases w ws u n)) m)

put_rises : (v : Value) (ws : List Value) → Rises Below ws → Rises Below (set.insert v ws)
put_rises v [] h = (λ y m. absurd (contains_none y m), tt)
put_rises v (w ∷ ws) h = put_cases v w ws (Rises Below)
    (λ b. (λ y m. ⊎_elim (λ e. subst (Below v) e b) (λ n. transitive v w y b (h.0 y n)) (contains_cases w ws y m), h))
    (λ e. h)
    (λ b. (λ y m. ⊎_elim (λ e. subst (Below w) e b) (h.0 y) (put_in v ws y m), put_rises v ws h.1))

set_of_rises : (xs : List Value) → Rises Below (set.set_of xs)
set_of_rises [] = tt
set_of_rises (x ∷ xs) = put_rises x (set.set_of xs) (set_of_rises xs)

set_of_in : (xs : List Value) (v : Value) → Contains (set.set_of xs) v → Contains xs v
set_of_in [] v m = m
set_of_in (x ∷ xs) v m = ⊎_elim (contains_here x xs v) (λ n. contains_there x xs v (set_of_in xs v n)) (put_in x (set.set_of xs) v m)

in_set_of : (xs : List Value) (v : Value) → Contains xs v → Contains (set.set_of xs) v
in_set_of [] v m = m
in_set_of (x ∷ xs) v m = in_put x (set.set_of xs) v (⊎_elim inl (λ n. inr (in_set_of xs v n)) (contains_cases x xs v m))

-- the set of a list whose members are those of which P holds
made_by : (P : Value → Type 0) (xs : List Value) → ((v : Value) → Contains xs v ↔ P v) → IsSetOf P (set.set_of xs)
made_by P xs h = set_from P (set.set_of xs) (set_of_rises xs) (λ v. (λ m. (h v).0 (set_of_in xs v m), λ p. in_set_of xs v ((h v).1 p)))

-- a fact has one set
pub one_set : (P : Value → Type 0) (xs ys : List Value) → IsSetOf P xs → IsSetOf P ys → xs ≡ ys
one_set P xs ys s t = same_members xs ys (rises xs s.ascending) (rises ys t.ascending) (λ v. (λ m. (t.members v).1 ((s.members v).0 m), λ m. (s.members v).1 ((t.members v).0 m)))

-- an answer that has the set of a fact is the list that has it
pub equals_from : {E : Type 0} (P : Value → Type 0) (r : Result (List Value) E) (ys : List Value) → IsSetOf P ys → IfOk r (IsSetOf P) → IfOk r (λ xs. xs ≡ ys)
equals_from P r ys t h = IfOk-weaker r _ (λ xs. xs ≡ ys) (λ xs s. one_set P xs ys s t) h

pub set_of_is : (xs : List Value) → IsSetOf (Contains xs) (set.set_of xs)
set_of_is xs = made_by (Contains xs) xs (λ v. (λ m. m, λ m. m))

pub set_of_rising : (xs : List Value) → Rises Below xs → set.set_of xs ≡ xs
set_of_rising xs h = one_set (Contains xs) (set.set_of xs) xs (set_of_is xs) (set_from (Contains xs) xs h (λ v. (λ m. m, λ m. m)))

-- ---- sets

pub union_is : (a b : List Value) → IsSetOf (InUnion a b) (set.union a b)
union_is a b = made_by (InUnion a b) (a ++ b) (λ v. (Contains-append_cases a b v, ⊎_elim (Contains-append_left a b v) (Contains-append_right a b v)))

pub meet_is : (a b : List Value) → IsSetOf (InMeet a b) (set.meet a b)
meet_is a b = made_by (InMeet a b) (filter (set.has b) a) (λ v. (
  λ m. let f = (contains_filter (set.has b) a v).0 m in (f.0, has_contains b v f.1),
  λ m. (contains_filter (set.has b) a v).1 (m.0, contains_has b v m.1),
))

pub minus_is : (a b : List Value) → IsSetOf (InMinus a b) (set.minus a b)
minus_is a b = made_by (InMinus a b) (filter (λ v. not (set.has b v)) a) (λ v. (
  λ m. let f = (contains_filter (λ v. not (set.has b v)) a v).0 m in (f.0, has_not b v f.1),
  λ m. (contains_filter (λ v. not (set.has b v)) a v).1 (m.0, not_has b v m.1),
))

pub cross_is : (a b : List Value) → IsSetOf (in_relation.InCross a b) (set.cross a b)
cross_is a b = made_by (in_relation.InCross a b) (flat_map (λ x. map (pair x) b) a) (λ v. (
  λ m. let f = contains_flat_map (λ x. map (pair x) b) a v m in let g = contains_map (pair f.0) b v f.2 in (f.0, g.0, sym g.2, f.1, g.1),
  λ m. flat_map_contains (λ x. map (pair x) b) a m.0 v m.3 (subst (Contains (map (pair m.0) b)) (sym m.2) (map_contains (pair m.0) b m.1 m.4)),
))

-- ---- maplets

abbrev maplet : Value → Value → Maplet
maplet x y = record { first = x; second = y }

pub maplet_in-pair : (x y : Value) → set.maplet_in (layer (pair x y)) ≡ Some (record { first = x; second = y })
maplet_in-pair x y = search (rules, the_lemmas)

pub maplet_in-other : (y : Layer) → rank_of y ≢ 3 → set.maplet_in y ≡ None
maplet_in-other (val.Pair a b) h = absurd (h refl)
maplet_in-other y h = refl

pub same_maplet : (m n : Maplet) → Some m ≡ Some n → m ≡ n
same_maplet m n e = cc

-- a value with a maplet is a pair
with_maplet : (v : Value) (m : Maplet) → set.maplet_in (layer v) ≡ Some m → v ≡ pair m.first m.second
with_maplet v m = as_pair (λ v. set.maplet_in (layer v) ≡ Some m → v ≡ pair m.first m.second)
    (λ x y h. let e : record { first = x; second = y } ≡ m = same_maplet (record { first = x; second = y }) m (sym (maplet_in-pair x y) ∙ h) in subst (λ n. pair x y ≡ pair n.first n.second) e refl)
    (λ v k h. let e : None ≡ Some m = sym (maplet_in-other (layer v) k) ∙ h in cc) v

pub maplets_in : (r : List Value) (m : Maplet) → Contains (set.maplets r) m → in_relation.Relates r m.first m.second
maplets_in r m c = let f = contains_filter_map (λ v. set.maplet_in (layer v)) r m c in subst (Contains r) (with_maplet f.0 m f.2) f.1

pub in_maplets : (r : List Value) (x y : Value) → in_relation.Relates r x y → Contains (set.maplets r) (record { first = x; second = y })
in_maplets r x y c = filter_map_contains (λ v. set.maplet_in (layer v)) r (pair x y) (record { first = x; second = y }) c (maplet_in-pair x y)

-- what is made of the maplets of a relation
made_of : (P : Value → Type 0) (E : Maplet → Value) (r : List Value) → ((v : Value) → P v ↔ ((x : Value) × (y : Value) × (v ≡ E (record { first = x; second = y })) × in_relation.Relates r x y)) → IsSetOf P (set.of_maplets E r)
made_of P E r h = made_by P (map E (set.maplets r)) (λ v. (
  λ m. let f = contains_map E (set.maplets r) v m in (h v).1 (f.0.first, f.0.second, sym f.2, maplets_in r f.0 f.1),
  λ p. let q = (h v).0 p in subst (Contains (map E (set.maplets r))) (sym q.2) (map_contains E (set.maplets r) (record { first = q.0; second = q.1 }) (in_maplets r q.0 q.1 q.3)),
))

pub domain_is : (r : List Value) → IsSetOf (in_relation.InDomain r) (set.domain r)
domain_is r = made_of (in_relation.InDomain r) (λ m. m.first) r (λ v. (λ p. (v, p.0, refl, p.1), λ q. (q.1, subst (λ z. in_relation.Relates r z q.1) (sym q.2) q.3)))

pub range_is : (r : List Value) → IsSetOf (in_relation.InRange r) (set.range r)
range_is r = made_of (in_relation.InRange r) (λ m. m.second) r (λ v. (λ p. (p.0, v, refl, p.1), λ q. (q.0, subst (in_relation.Relates r q.0) (sym q.2) q.3)))

pub inverse_is : (r : List Value) → IsSetOf (in_relation.InInverse r) (set.inverse r)
inverse_is r = made_of (in_relation.InInverse r) (λ m. pair m.second m.first) r (λ v. (λ p. p, λ q. q))

-- the maplets of a relation that pass a test
made_with : (P : Value → Type 0) (T : Maplet → Bool) (r : List Value) → ((v : Value) → P v ↔ ((x : Value) × (y : Value) × (v ≡ pair x y) × in_relation.Relates r x y × (T (record { first = x; second = y }) ≡ true))) → IsSetOf P (set.maplets_with T r)
made_with P T r h = made_by P (map (λ m. pair m.first m.second) (filter T (set.maplets r))) (λ v. (
  λ m. let f = contains_map (λ m. pair m.first m.second) (filter T (set.maplets r)) v m in
      let g = (contains_filter T (set.maplets r) f.0).0 f.1 in
      (h v).1 (f.0.first, f.0.second, sym f.2, maplets_in r f.0 g.0, g.1),
  λ p. let q = (h v).0 p in
      subst (Contains (map (λ m. pair m.first m.second) (filter T (set.maplets r)))) (sym q.2)
      (map_contains (λ m. pair m.first m.second) (filter T (set.maplets r)) (record { first = q.0; second = q.1 })
      ((contains_filter T (set.maplets r) (record { first = q.0; second = q.1 })).1 (in_maplets r q.0 q.1 q.3, q.4))),
))

pub dom_keep_is : (s r : List Value) → IsSetOf (in_relation.InDomKeep s r) (set.dom_keep s r)
dom_keep_is s r = made_with (in_relation.InDomKeep s r) (λ m. set.has s m.first) r (λ v. (
  λ p. (p.0, p.1, p.2, p.4, contains_has s p.0 p.3),
  λ q. (q.0, q.1, q.2, has_contains s q.0 q.4, q.3),
))

pub dom_drop_is : (s r : List Value) → IsSetOf (in_relation.InDomDrop s r) (set.dom_drop s r)
dom_drop_is s r = made_with (in_relation.InDomDrop s r) (λ m. not (set.has s m.first)) r (λ v. (
  λ p. (p.0, p.1, p.2, p.4, not_has s p.0 p.3),
  λ q. (q.0, q.1, q.2, has_not s q.0 q.4, q.3),
))

pub ran_keep_is : (r s : List Value) → IsSetOf (in_relation.InRanKeep r s) (set.ran_keep r s)
ran_keep_is r s = made_with (in_relation.InRanKeep r s) (λ m. set.has s m.second) r (λ v. (
  λ p. (p.0, p.1, p.2, p.3, contains_has s p.1 p.4),
  λ q. (q.0, q.1, q.2, q.3, has_contains s q.1 q.4),
))

pub ran_drop_is : (r s : List Value) → IsSetOf (in_relation.InRanDrop r s) (set.ran_drop r s)
ran_drop_is r s = made_with (in_relation.InRanDrop r s) (λ m. not (set.has s m.second)) r (λ v. (
  λ p. (p.0, p.1, p.2, p.3, not_has s p.1 p.4),
  λ q. (q.0, q.1, q.2, q.3, has_not s q.1 q.4),
))

pub image_is : (r s : List Value) → IsSetOf (in_relation.InImage r s) (set.image r s)
image_is r s = same_set (in_relation.InRange (set.dom_keep s r)) (in_relation.InImage r s) (set.image r s)
    (λ y. (
      λ m. let k = ((dom_keep_is s r).members (pair m.0 y)).0 m.1 in let e = same_pair m.0 y k.0 k.1 k.2 in (k.0, k.3, subst (in_relation.Relates r k.0) (sym e.1) k.4),
      λ m. (m.0, ((dom_keep_is s r).members (pair m.0 y)).1 (m.0, y, refl, m.1, m.2)),
    ))
    (range_is (set.dom_keep s r))

pub overlay_is : (f g : List Value) → IsSetOf (in_relation.InOverlay f g) (set.overlay f g)
overlay_is f g = same_set (InUnion (set.dom_drop (set.domain g) f) g) (in_relation.InOverlay f g) (set.overlay f g)
    (λ v. (
      λ m. ⊎_elim (λ n. let k = ((dom_drop_is (set.domain g) f).members v).0 n in inr (k.0, k.1, k.2, k.4, λ i. k.3 (((domain_is g).members k.0).1 i))) inl m,
      λ m. ⊎_elim inr (λ k. inl (((dom_drop_is (set.domain g) f).members v).1 (k.0, k.1, k.2, (λ i. k.4 (((domain_is g).members k.0).0 i)), k.3))) m,
    ))
    (union_is (set.dom_drop (set.domain g) f) g)

-- what is made of the maplets of two relations
made_of_two : (P : Value → Type 0) (T : Maplet → Maplet → Bool) (E : Maplet → Maplet → Value) (r s : List Value)
    → ((v : Value) → P v ↔ ((x : Value) × (y : Value) × (u : Value) × (z : Value) × (v ≡ E (record { first = x; second = y }) (record { first = u; second = z })) × in_relation.Relates r x y × in_relation.Relates s u z × (T (record { first = x; second = y }) (record { first = u; second = z }) ≡ true)))
    → IsSetOf P (set.of_two T E r s)
made_of_two P T E r s h = made_by P (flat_map (λ m. map (E m) (filter (T m) (set.maplets s))) (set.maplets r)) (λ v. (
  λ c. let f = contains_flat_map (λ m. map (E m) (filter (T m) (set.maplets s))) (set.maplets r) v c in
      let g = contains_map (E f.0) (filter (T f.0) (set.maplets s)) v f.2 in
      let k = (contains_filter (T f.0) (set.maplets s) g.0).0 g.1 in
      (h v).1 (f.0.first, f.0.second, g.0.first, g.0.second, sym g.2, maplets_in r f.0 f.1, maplets_in s g.0 k.0, k.1),
  λ p. let q = (h v).0 p in
      let m : Maplet = record { first = q.0; second = q.1 } in
      let n : Maplet = record { first = q.2; second = q.3 } in
      flat_map_contains (λ m. map (E m) (filter (T m) (set.maplets s))) (set.maplets r) m v (in_maplets r q.0 q.1 q.5)
      (subst (Contains (map (E m) (filter (T m) (set.maplets s)))) (sym q.4)
      (map_contains (E m) (filter (T m) (set.maplets s)) n ((contains_filter (T m) (set.maplets s) n).1 (in_maplets s q.2 q.3 q.6, q.7)))),
))

pub compose_is : (r s : List Value) → IsSetOf (in_relation.InCompose r s) (set.compose r s)
compose_is r s = made_of_two (in_relation.InCompose r s) (λ m n. set.same m.second n.first) (λ m n. pair m.first n.second) r s (λ v. (
  λ p. (p.0, p.1, p.1, p.2, p.3, p.4, p.5, is_same p.1),
  λ q. (q.0, q.1, q.3, q.4, q.5, subst (λ u. in_relation.Relates s u q.3) (sym (same_is q.1 q.2 q.7)) q.6),
))

pub direct_is : (r s : List Value) → IsSetOf (in_relation.InDirect r s) (set.direct r s)
direct_is r s = made_of_two (in_relation.InDirect r s) (λ m n. set.same m.first n.first) (λ m n. pair m.first (pair m.second n.second)) r s (λ v. (
  λ p. (p.0, p.1, p.0, p.2, p.3, p.4, p.5, is_same p.0),
  λ q. (q.0, q.1, q.3, q.4, q.5, subst (λ u. in_relation.Relates s u q.3) (sym (same_is q.0 q.2 q.7)) q.6),
))

pub parallel_is : (r s : List Value) → IsSetOf (in_relation.InParallel r s) (set.parallel r s)
parallel_is r s = made_of_two (in_relation.InParallel r s) (λ m n. true) (λ m n. pair (pair m.first n.first) (pair m.second n.second)) r s (λ v. (
  λ p. (p.0, p.1, p.2, p.3, p.4, p.5, p.6, refl),
  λ q. (q.0, q.1, q.2, q.3, q.4, q.5, q.6),
))

-- ---- application

all_at : {A : Type 0} (p : A → Bool) (xs : List A) (x : A) → list_all p xs ≡ true → Contains xs x → p x ≡ true
all_at p [] x h m = absurd (contains_none x m)
all_at p (y ∷ xs) x h m = ⊎_elim (λ e. subst (λ z. p z ≡ true) e (first_so (p y) (list_all p xs) h)) (all_at p xs x (second_so (p y) (list_all p xs) h)) (contains_cases y xs x m)

-- some element fails the test
abbrev Fails : {A : Type 0} → (A → Bool) → List A → Type 0
Fails {A} p xs = (x : A) × Contains xs x × (p x ≡ false)

fails_by : {A : Type 0} (p : A → Bool) (y : A) (xs : List A) (b : Bool) → p y ≡ b → (list_all p xs ≡ false → Fails p xs) → (b && list_all p xs) ≡ false → Fails p (y ∷ xs)
fails_by p y xs true e later h = let f = later h in (f.0, contains_there y xs f.0 f.1, f.2)
fails_by p y xs false e later h = (y, contains_here y xs y refl, e)

fails : {A : Type 0} (p : A → Bool) (xs : List A) → list_all p xs ≡ false → Fails p xs
fails p [] h = cc
fails p (y ∷ xs) h = fails_by p y xs (p y) refl (fails p xs) h

agreed : (b c : Bool) → b ≡ true → (not b || c) ≡ true → c ≡ true
agreed true c e h = h
agreed false c e h = cc

not_agreed : (b c : Bool) → (not b || c) ≡ false → (b ≡ true) × (c ≡ false)
not_agreed true c h = (refl, h)
not_agreed false c h = cc

not_same : (v w : Value) → set.same v w ≡ false → v ≢ w
not_same v w h e = let k : true ≡ false = sym (ap (set.same v) (sym e) ∙ is_same v) ∙ h in cc

ambiguous_so : (f : List Value) → set.is_functional f ≡ false → in_relation.IsAmbiguous f
ambiguous_so f h =
    let a = fails (λ m. list_all (λ n. not (set.same m.first n.first) || set.same m.second n.second) (set.maplets f)) (set.maplets f) h in
    let b = fails (λ n. not (set.same a.0.first n.first) || set.same a.0.second n.second) (set.maplets f) a.2 in
    let d = not_agreed (set.same a.0.first b.0.first) (set.same a.0.second b.0.second) b.2 in (
      a.0.first,
      a.0.second,
      b.0.second,
      maplets_in f a.0 a.1,
      subst (λ z. in_relation.Relates f z b.0.second) (sym (same_is a.0.first b.0.first d.0)) (maplets_in f b.0 b.1),
      not_same a.0.second b.0.second d.1,
    )

one_second : (f : List Value) → set.is_functional f ≡ true → (x y z : Value) → in_relation.Relates f x y → in_relation.Relates f x z → y ≡ z
one_second f h x y z m n =
    let a = all_at (λ m. list_all (λ n. not (set.same m.first n.first) || set.same m.second n.second) (set.maplets f)) (set.maplets f) (maplet x y) h (in_maplets f x y m) in
    let b = all_at (λ n. not (set.same x n.first) || set.same y n.second) (set.maplets f) (maplet x z) a (in_maplets f x z n) in
    same_is y z (agreed (set.same x x) (set.same y z) (is_same x) b)

only_first : (x u : Value) → Contains (x ∷ []) u → x ≡ u
only_first x u m = ⊎_elim (λ e. e) (λ n. absurd (contains_none u n)) (contains_cases x [] u m)

none_so : (o : Option Value) → IsNone o → o ≡ None
none_so None n = refl
none_so (Some y) n = cc

-- what the images of one value are
module _ (f : List Value) (x : Value) where
  image_at : (y : Value) → Contains (set.image f (x ∷ [])) y → in_relation.Relates f x y
  image_at y m = let k = ((image_is f (x ∷ [])).members y).0 m in subst (λ u. in_relation.Relates f u y) (sym (only_first x k.0 k.1)) k.2

  at_image : (y : Value) → in_relation.Relates f x y → Contains (set.image f (x ∷ [])) y
  at_image y m = ((image_is f (x ∷ [])).members y).1 (x, contains_here x [] x refl, m)

  -- an answer of an application, by its cause
  abbrev Answers : Option Value → Type 0
  Answers o = (IsNone o ↔ (in_relation.IsAmbiguous f ⊎ ¬ in_relation.InDomain f x)) × IfSome o (λ y. in_relation.Relates f x y)

  front_of : (ys : List Value) → set.image f (x ∷ []) ≡ ys → set.is_functional f ≡ true → (o : Option Value) → Answers o → o ≡ set.first_of ys
  front_of [] e g None a = refl
  front_of [] e g (Some y) a = absurd (contains_none y (subst (λ xs. Contains xs y) e (at_image y a.1)))
  front_of (z ∷ zs) e g None a =
      let there : in_relation.Relates f x z = image_at z (subst (λ xs. Contains xs z) (sym e) (contains_here z zs z refl)) in
      absurd (⊎_elim (λ b. b.5 (one_second f g b.0 b.1 b.2 b.3 b.4)) (λ n. n (z, there)) (a.0.0 refl))
  front_of (z ∷ zs) e g (Some y) a =
      let there : in_relation.Relates f x z = image_at z (subst (λ xs. Contains xs z) (sym e) (contains_here z zs z refl)) in
      ap Some (one_second f g x y z a.1 there)

  applied_by : (b : Bool) → set.is_functional f ≡ b → (o : Option Value) → Answers o → o ≡ (if b then set.first_of (set.image f (x ∷ [])) else None)
  applied_by true g o a = front_of (set.image f (x ∷ [])) refl g o a
  applied_by false g o a = none_so o (a.0.1 (inl (ambiguous_so f g)))

-- a relation that is told functional otherwise
pub functional_by : (f : List Value) (b : Bool) → (b ≡ false → in_relation.IsAmbiguous f) → (b ≡ true → (x y z : Value) → in_relation.Relates f x y → in_relation.Relates f x z → y ≡ z) → b ≡ set.is_functional f
functional_by f b apart alone = at b refl (set.is_functional f) refl where
  at : (c : Bool) → b ≡ c → (d : Bool) → set.is_functional f ≡ d → b ≡ set.is_functional f
  at true e true g = e ∙ sym g
  at false e false g = e ∙ sym g
  at true e false g = let a = ambiguous_so f g in absurd (a.5 (alone e a.0 a.1 a.2 a.3 a.4))
  at false e true g = let a = apart e in absurd (a.5 (one_second f g a.0 a.1 a.2 a.3 a.4))

-- what is applied is related
applied_at : (f : List Value) (x y : Value) (b : Bool) (ys : List Value) → set.image f (x ∷ []) ≡ ys → (if b then set.first_of ys else None) ≡ Some y → in_relation.Relates f x y
applied_at f x y true [] e h = cc
applied_at f x y true (z ∷ zs) e h = subst (in_relation.Relates f x) (same_some z y h) (image_at f x z (subst (λ xs. Contains xs z) (sym e) (contains_here z zs z refl)))
applied_at f x y false ys e h = cc

pub applied_related : (f : List Value) (x y : Value) → set.apply f x ≡ Some y → in_relation.Relates f x y
applied_related f x y h = applied_at f x y (set.is_functional f) (set.image f (x ∷ [])) refl h

pub apply_is : (f : List Value) (x : Value) (o : Option Value) → (IsNone o ↔ (in_relation.IsAmbiguous f ⊎ ¬ in_relation.InDomain f x)) → IfSome o (λ y. in_relation.Relates f x y) → o ≡ set.apply f x
apply_is f x o n s = applied_by f x (set.is_functional f) refl o (n, s)
