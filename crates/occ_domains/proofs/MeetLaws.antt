-- The meet has what both have.
use Rattle.std.proofs.Common.{◌≡◌, ◌∙◌, Bool, true, false, ◌&&◌, ℤ, int_le, List, filter, refl, sym, ap, arith, rules}
use Rattle.std.specs.Int.{int_min, int_max}
use Rattle.std.specs.Ordering.{is_eq}
use Rattle.std.specs.declared.cmp.Ordering.{Ordering}
use Rattle.std.specs.declared.cmp.Ordering.TheVariants.{Less, Equal, Greater}
use Rattle.std.proofs.lemmas.Int.{ints}
use Rattle.std.proofs.lemmas.Map.Views.{any-filter_same}
use Rattle.eb_value.specs.declared.value.Value.{Value}
use Rattle.eb_value.specs.declared.value.Form.TheOpen as val
use Rattle.eb_value.specs.Values.{Layer, layer, compare}
use Rattle.eb_value.specs.Comprehensions.{has as is_among, same}
use Rattle.int_dom.specs.declared.interval.Interval.{Interval}
use Rattle.occ_domains.specs.declared.body.Body.{Body, Body-F, out-Body, the_lemmas}
use Rattle.occ_domains.specs.declared.body.Body.TheOpen as body
use Rattle.occ_domains.specs.declared.body.Body.TheVariants as of
use Rattle.occ_domains.specs.Bodies.{is_plain_layer, has_step, has, has_at, common, meet, meet_step}
use Rattle.occ_domains.proofs.BodyLaws.{ind_body, has_out, has-empty, has-integers, has-members, has-pairs, has-sets, integers_have, members_have, pairs_have, and_false}

-- the order tells values apart
abbrev pub Exact : Type 0
Exact = (v w : Value) → compare v w ≡ Equal → v ≡ w

so_equal : (o : Ordering) → is_eq o ≡ true → o ≡ Equal
so_equal Equal h = refl
so_equal Less h = cc
so_equal Greater h = cc

pub same_is : Exact → (v w : Value) → same v w ≡ true → v ≡ w
same_is exact v w h = exact v w (so_equal (compare v w) h)

-- ---- at the first's kinds

abbrev Both : Body-F (Body → Body) → (Value → Layer → Bool) → Type 0
Both s first = (z : Body-F Body) (v : Value) → has (meet_step s z) v ≡ (first v (layer v) && has_at z v (layer v))

both_ends : (c d : Interval) (n : ℤ) → (int_le (int_max c.lo d.lo) n && int_le n (int_min c.hi d.hi)) ≡ ((int_le c.lo n && int_le n c.hi) && (int_le d.lo n && int_le n d.hi))
both_ends c d n = grind (arith, ints)

both_integers : (c d : Interval) (v : Value) (y : Layer) → has_step (body.Integers (common c d)) v y ≡ (has_step (body.Integers c) v y && has_step (body.Integers d) v y)
both_integers c d v (val.Int n) = both_ends c d n
both_integers c d v _ = refl

module _ (c : Interval) (v : Value) where
  integers_members : (xs : List Value) (y : Layer) → false ≡ (has_step (body.Integers c) v y && (is_plain_layer y && is_among xs v))
  integers_members xs (val.Int n) = sym (and_false (int_le c.lo n && int_le n c.hi))
  integers_members xs _ = refl

  integers_pairs : (f g : Value → Bool) (y : Layer) → false ≡ (has_step (body.Integers c) v y && has_step (body.Pairs f g) v y)
  integers_pairs f g (val.Int n) = sym (and_false (int_le c.lo n && int_le n c.hi))
  integers_pairs f g _ = refl

  integers_sets : (y : Layer) → false ≡ (has_step (body.Integers c) v y && has_step body.AllSets v y)
  integers_sets (val.Int n) = sym (and_false (int_le c.lo n && int_le n c.hi))
  integers_sets _ = refl

meet_integers : (c : Interval) → Both (body.Integers c) (has_step (body.Integers c))
meet_integers c body.Empty v = has-empty v ∙ sym (and_false (has_step (body.Integers c) v (layer v)))
meet_integers c (body.Integers d) v = integers_have (common c d) v ∙ both_integers c d v (layer v)
meet_integers c (body.Members xs) v = has-empty v ∙ integers_members c v xs (layer v)
meet_integers c (body.Pairs a b) v = has-empty v ∙ integers_pairs c v (has a) (has b) (layer v)
meet_integers c body.AllSets v = has-empty v ∙ integers_sets c v (layer v)

and_and : (p q r : Bool) → (p && (q && r)) ≡ ((p && r) && (p && q))
and_and true true true = refl
and_and true true false = refl
and_and true false true = refl
and_and true false false = refl
and_and false q r = refl

among_both : Exact → (xs ys : List Value) (v : Value) → is_among (filter (is_among ys) xs) v ≡ (is_among ys v && is_among xs v)
among_both exact xs ys v = any-filter_same (same v) (is_among ys) (is_among ys v) (λ k h. ap (is_among ys) (sym (same_is exact v k h))) xs

module _ (xs : List Value) (v : Value) where
  members_integers : (d : Interval) (y : Layer) → false ≡ ((is_plain_layer y && is_among xs v) && has_step (body.Integers d) v y)
  members_integers d (val.Int n) = refl
  members_integers d y = sym (and_false (is_plain_layer y && is_among xs v))

  members_pairs : (f g : Value → Bool) (y : Layer) → false ≡ ((is_plain_layer y && is_among xs v) && has_step (body.Pairs f g) v y)
  members_pairs f g (val.Pair a b) = refl
  members_pairs f g y = sym (and_false (is_plain_layer y && is_among xs v))

  members_sets : (y : Layer) → false ≡ ((is_plain_layer y && is_among xs v) && has_step body.AllSets v y)
  members_sets (val.Set vs) = refl
  members_sets y = sym (and_false (is_plain_layer y && is_among xs v))

meet_members : Exact → (xs : List Value) → Both (body.Members xs) (λ v y. is_plain_layer y && is_among xs v)
meet_members exact xs body.Empty v = has-empty v ∙ sym (and_false (is_plain_layer (layer v) && is_among xs v))
meet_members exact xs (body.Integers d) v = has-empty v ∙ members_integers xs v d (layer v)
meet_members exact xs (body.Members ys) v =
    members_have (filter (is_among ys) xs) v ∙ ap (λ b. is_plain_layer (layer v) && b) (among_both exact xs ys v)
    ∙ and_and (is_plain_layer (layer v)) (is_among ys v) (is_among xs v)
meet_members exact xs (body.Pairs a b) v = has-empty v ∙ members_pairs xs v (has a) (has b) (layer v)
meet_members exact xs body.AllSets v = has-empty v ∙ members_sets xs v (layer v)

and_crossed : (p q r s : Bool) → ((p && q) && (r && s)) ≡ ((p && r) && (q && s))
and_crossed true true r s = refl
and_crossed true false true s = refl
and_crossed true false false s = refl
and_crossed false q r s = refl

module _ (a b : Body) (v : Value) where
  pairs_integers : (d : Interval) (y : Layer) → false ≡ (has_step (body.Pairs (has a) (has b)) v y && has_step (body.Integers d) v y)
  pairs_integers d (val.Pair p q) = sym (and_false (has a p && has b q))
  pairs_integers d _ = refl

  pairs_members : (xs : List Value) (y : Layer) → false ≡ (has_step (body.Pairs (has a) (has b)) v y && (is_plain_layer y && is_among xs v))
  pairs_members xs (val.Pair p q) = sym (and_false (has a p && has b q))
  pairs_members xs _ = refl

  pairs_sets : (y : Layer) → false ≡ (has_step (body.Pairs (has a) (has b)) v y && has_step body.AllSets v y)
  pairs_sets (val.Pair p q) = sym (and_false (has a p && has b q))
  pairs_sets _ = refl

  pairs_pairs : (c d e f : Body) → ((w : Value) → has e w ≡ (has a w && has c w)) → ((w : Value) → has f w ≡ (has b w && has d w)) → (y : Layer)
      → has_step (body.Pairs (has e) (has f)) v y ≡ (has_step (body.Pairs (has a) (has b)) v y && has_step (body.Pairs (has c) (has d)) v y)
  pairs_pairs c d e f h k (val.Pair p q) = rw (h p, k q) (and_crossed (has a p) (has c p) (has b q) (has d q))
  pairs_pairs c d e f h k _ = refl

abbrev Meets : Body → Type 0
Meets a = (b : Body) (v : Value) → has (meet a b) v ≡ (has a v && has b v)

meet_pairs : (a b : Body) → Meets a → Meets b → Both (body.Pairs (meet a) (meet b)) (has_step (body.Pairs (has a) (has b)))
meet_pairs a b h k body.Empty v = has-empty v ∙ sym (and_false (has_step (body.Pairs (has a) (has b)) v (layer v)))
meet_pairs a b h k (body.Integers d) v = has-empty v ∙ pairs_integers a b v d (layer v)
meet_pairs a b h k (body.Members xs) v = has-empty v ∙ pairs_members a b v xs (layer v)
meet_pairs a b h k (body.Pairs c d) v = pairs_have (meet a c) (meet b d) v ∙ pairs_pairs a b v c d (meet a c) (meet b d) (h c) (k d) (layer v)
meet_pairs a b h k body.AllSets v = has-empty v ∙ pairs_sets a b v (layer v)

module _ (v : Value) where
  sets_integers : (d : Interval) (y : Layer) → false ≡ (has_step body.AllSets v y && has_step (body.Integers d) v y)
  sets_integers d (val.Set vs) = refl
  sets_integers d _ = refl

  sets_members : (xs : List Value) (y : Layer) → false ≡ (has_step body.AllSets v y && (is_plain_layer y && is_among xs v))
  sets_members xs (val.Set vs) = refl
  sets_members xs _ = refl

  sets_pairs : (f g : Value → Bool) (y : Layer) → false ≡ (has_step body.AllSets v y && has_step (body.Pairs f g) v y)
  sets_pairs f g (val.Set vs) = refl
  sets_pairs f g _ = refl

  sets_sets : (y : Layer) → has_step body.AllSets v y ≡ (has_step body.AllSets v y && has_step body.AllSets v y)
  sets_sets (val.Set vs) = refl
  sets_sets _ = refl

meet_sets : Both body.AllSets (has_step body.AllSets)
meet_sets body.Empty v = has-empty v ∙ sym (and_false (has_step body.AllSets v (layer v)))
meet_sets (body.Integers d) v = has-empty v ∙ sets_integers v d (layer v)
meet_sets (body.Members xs) v = has-empty v ∙ sets_members v xs (layer v)
meet_sets (body.Pairs a b) v = has-empty v ∙ sets_pairs v (has a) (has b) (layer v)
meet_sets body.AllSets v = has-sets v ∙ sets_sets v (layer v)

-- ---- at each kind

pub meet-empty : (b : Body) → meet of.Empty b ≡ of.Empty
meet-empty b = search (rules, the_lemmas)

pub meet-integers : (c : Interval) (b : Body) → meet (of.Integers c) b ≡ meet_step (body.Integers c) (out-Body b)
meet-integers c b = search (rules, the_lemmas)

pub meet-members : (xs : List Value) (b : Body) → meet (of.Members xs) b ≡ meet_step (body.Members xs) (out-Body b)
meet-members xs b = search (rules, the_lemmas)

pub meet-pairs : (a c b : Body) → meet (of.Pairs a c) b ≡ meet_step (body.Pairs (meet a) (meet c)) (out-Body b)
meet-pairs a c b = search (rules, the_lemmas)

pub meet-sets : (b : Body) → meet of.AllSets b ≡ meet_step body.AllSets (out-Body b)
meet-sets b = search (rules, the_lemmas)

pub meet_has : Exact → (a : Body) → Meets a
meet_has exact = ind_body Meets (record {
  none = λ b v. rw (meet-empty b, has-empty v) refl;
  integers = λ c b v. rw (meet-integers c b, has-integers c v, has_out b v) (meet_integers c (out-Body b) v);
  members = λ xs b v. rw (meet-members xs b, has-members xs v, has_out b v) (meet_members exact xs (out-Body b) v);
  pairs = λ a c h k b v. rw (meet-pairs a c b, has-pairs a c v, has_out b v) (meet_pairs a c h k (out-Body b) v);
  sets = λ b v. rw (meet-sets b, has-sets v, has_out b v) (meet_sets (out-Body b) v);
})
