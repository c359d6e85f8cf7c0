-- The parts of a domain have what passes, and what doesn't.
use Rattle.std.proofs.Common.{◌≡◌, ◌∙◌, ℤ, pos, ◌+ℤ◌, int_le, Bool, true, false, not, ◌&&◌, List, [], ◌∷◌, filter, refl, sym, ap, arith}
use Rattle.std.specs.Int.{int_min, int_max}
use Rattle.std.proofs.lemmas.Int.{ints}
use Rattle.std.proofs.lemmas.Map.Views.{any-filter_same}
use Rattle.eb_value.specs.declared.value.Value.{Value}
use Rattle.eb_value.specs.declared.value.Form.TheOpen as val
use Rattle.eb_value.specs.Values.{Layer, layer}
use Rattle.eb_value.specs.Comprehensions.{has as is_among, same}
use Rattle.eb_term.specs.declared.operators.Side.{Side}
use Rattle.eb_term.specs.declared.operators.Side.TheVariants as side
use Rattle.int_dom.specs.declared.interval.Interval.{Interval}
use Rattle.int_dom.specs.Intervals as interval
use Rattle.int_dom.specs.Intervals.{at_most, above, filled}
use Rattle.occ_domains.specs.declared.body.Body.{Body, Body-F, out-Body}
use Rattle.occ_domains.specs.declared.body.Body.TheOpen as body
use Rattle.occ_domains.specs.declared.tests.Test.{Test}
use Rattle.occ_domains.specs.declared.tests.Test.TheVariants as test
use Rattle.occ_domains.specs.Bodies.{is_plain_layer, has_step, has, has_at, integers, members}
use Rattle.occ_domains.specs.Tests.{is_at_most, in_part, holds_at, fits_layer, fits_leaf, fits_in, fits_at, is_kept, body_of, cut, is_alike, leaf_layer, leaf, changed_in, changed_at}
use Rattle.occ_domains.proofs.BodyLaws.{has_out, integers_have, members_have, pairs_have}
use Rattle.occ_domains.proofs.MeetLaws.{Exact, same_is}

-- ---- at the end of the path

pub cut_is : (e : Interval) → body_of (filled e) ≡ integers e
cut_is e = at (interval.is_empty e) refl where
  at : (b : Bool) → interval.is_empty e ≡ b → body_of (filled e) ≡ integers e
  at true k = rw k refl
  at false k = rw k refl

abbrev pub passes_leaf : Test → Value → Bool
passes_leaf (test.AtMost path n) v = is_at_most n (layer v)
passes_leaf (test.Is path u) v = same v u
passes_leaf _ v = false

low_has : (d : Interval) (n m : ℤ) → (int_le d.lo m && int_le m (int_min d.hi n)) ≡ ((int_le d.lo m && int_le m d.hi) && int_le m n)
low_has d n m = grind (arith, ints)

high_has : (d : Interval) (n m : ℤ) → (int_le (int_max d.lo (n +ℤ pos 1)) m && int_le m d.hi) ≡ ((int_le d.lo m && int_le m d.hi) && not (int_le m n))
high_has d n m = grind (arith, ints)

low_at : (d : Interval) (n : ℤ) (v : Value) (y : Layer) → has_step (body.Integers (at_most n d)) v y ≡ (has_step (body.Integers d) v y && is_at_most n y)
low_at d n v (val.Int m) = low_has d n m
low_at d n v _ = refl

high_at : (d : Interval) (n : ℤ) (v : Value) (y : Layer) → has_step (body.Integers (above n d)) v y ≡ (has_step (body.Integers d) v y && not (is_at_most n y))
high_at d n v (val.Int m) = high_has d n m
high_at d n v _ = refl

cut_has : (keep : Bool) (n : ℤ) (d : Interval) (v : Value) → has (cut keep n d) v ≡ (has_step (body.Integers d) v (layer v) && is_kept keep (is_at_most n (layer v)))
cut_has true n d v = ap (λ b. has b v) (cut_is (at_most n d)) ∙ integers_have (at_most n d) v ∙ low_at d n v (layer v)
cut_has false n d v = ap (λ b. has b v) (cut_is (above n d)) ∙ integers_have (above n d) v ∙ high_at d n v (layer v)

and_turned : (p q r : Bool) → (p && (q && r)) ≡ ((p && r) && q)
and_turned true true true = refl
and_turned true true false = refl
and_turned true false true = refl
and_turned true false false = refl
and_turned false q r = refl

pub alike_has : Exact → (keep : Bool) (u : Value) (xs : List Value) (v : Value) → has (members (filter (is_alike keep u) xs)) v ≡ ((is_plain_layer (layer v) && is_among xs v) && is_kept keep (same v u))
alike_has exact keep u xs v =
    members_have (filter (is_alike keep u) xs) v
    ∙ ap (λ b. is_plain_layer (layer v) && b) (any-filter_same (same v) (is_alike keep u) (is_alike keep u v) (λ k h. ap (is_alike keep u) (sym (same_is exact v k h))) xs)
    ∙ and_turned (is_plain_layer (layer v)) (is_alike keep u v) (is_among xs v)

leaf_at : Exact → (keep : Bool) (t : Test) (z : Body-F Body) → fits_layer t z ≡ true → (v : Value) → has (leaf_layer keep t z) v ≡ (has_at z v (layer v) && is_kept keep (passes_leaf t v))
leaf_at exact keep (test.AtMost path n) (body.Integers d) f v = cut_has keep n d v
leaf_at exact keep (test.Is path u) (body.Members xs) f v = alike_has exact keep u xs v
leaf_at exact keep _ _ f v = cc

-- ---- along the path

abbrev pub Keeps : Bool → (Body → Body) → (Body → Bool) → (Value → Bool) → Type 0
Keeps keep f q p = (b : Body) → q b ≡ true → (v : Value) → has (f b) v ≡ (has b v && is_kept keep (p v))

leaf_has : Exact → (keep : Bool) (t : Test) → Keeps keep (leaf keep t) (fits_leaf t) (passes_leaf t)
leaf_has exact keep t b f v = leaf_at exact keep t (out-Body b) f v ∙ ap (λ h. h && is_kept keep (passes_leaf t v)) (sym (has_out b v))

and_through : (p q r : Bool) → ((p && q) && r) ≡ ((p && r) && q)
and_through true true true = refl
and_through true true false = refl
and_through true false true = refl
and_through true false false = refl
and_through false q r = refl

and_after : (p q r : Bool) → (p && (q && r)) ≡ ((p && q) && r)
and_after true q r = refl
and_after false q r = refl

module _ (keep : Bool) (f : Body → Body) (q : Body → Bool) (p : Value → Bool) (keeps : Keeps keep f q p) where
  first_at : (a b : Body) → q a ≡ true → (v : Value) (y : Layer) → has_step (body.Pairs (has (f a)) (has b)) v y ≡ (has_step (body.Pairs (has a) (has b)) v y && is_kept keep (in_part side.First p y))
  first_at a b h v (val.Pair x z) = rw (keeps a h x) (and_through (has a x) (is_kept keep (p x)) (has b z))
  first_at a b h v _ = refl

  second_at : (a b : Body) → q b ≡ true → (v : Value) (y : Layer) → has_step (body.Pairs (has a) (has (f b))) v y ≡ (has_step (body.Pairs (has a) (has b)) v y && is_kept keep (in_part side.Second p y))
  second_at a b h v (val.Pair x z) = rw (keeps b h z) (and_after (has a x) (has b z) (is_kept keep (p z)))
  second_at a b h v _ = refl

  side_at : (s : Side) (z : Body-F Body) → fits_in s q z ≡ true → (v : Value) → has (changed_in s f z) v ≡ (has_at z v (layer v) && is_kept keep (in_part s p (layer v)))
  side_at side.First (body.Pairs a b) h v = pairs_have (f a) b v ∙ first_at a b h v (layer v)
  side_at side.Second (body.Pairs a b) h v = pairs_have a (f b) v ∙ second_at a b h v (layer v)
  side_at s _ h v = cc

pub path_has : (keep : Bool) (f : Body → Body) (q : Body → Bool) (p : Value → Bool) → Keeps keep f q p → (path : List Side) → Keeps keep (changed_at f path) (fits_at q path) (holds_at p path)
path_has keep f q p keeps [] b h v = keeps b h v
path_has keep f q p keeps (s ∷ path) b h v =
    side_at keep (changed_at f path) (fits_at q path) (holds_at p path) (path_has keep f q p keeps path) s (out-Body b) h v
    ∙ ap (λ x. x && is_kept keep (in_part s (holds_at p path) (layer v))) (sym (has_out b v))

pub body_part_has : Exact → (keep : Bool) (t : Test) (path : List Side) → Keeps keep (changed_at (leaf keep t) path) (fits_at (fits_leaf t) path) (holds_at (passes_leaf t) path)
body_part_has exact keep t path = path_has keep (leaf keep t) (fits_leaf t) (passes_leaf t) (leaf_has exact keep t) path
