-- Down to a side of an operator on two parts is sound.
use Rattle.std.proofs.Common.{◌≡◌, ◌∙◌, ℤ, int_le, Bool, true, false, ◌&&◌, Option, Some, None, refl, sym, ap, subst, rules, arith}
use Rattle.std.specs.Int.{int_min, int_max}
use Rattle.std.proofs.lemmas.Int.{ints}
use Rattle.eb_syntax.specs.declared.ast.Operator.TheVariants as op
use Rattle.eb_value.specs.declared.value.Value.{Value, the_lemmas as value_rules}
use Rattle.eb_value.specs.declared.value.Form.TheOpen as val
use Rattle.eb_value.specs.Values.{Layer, layer, pair}
use Rattle.eb_value.specs.Comprehensions.{same}
use Rattle.eb_operations.specs.declared.truth3.Truth3.{Truth3}
use Rattle.eb_operations.specs.Truths.{truth_of, tested}
use Rattle.eb_operations.specs.Operations.{with_two, with_ints, value_by}
use Rattle.eb_operations.specs.Tests.{test_by}
use Rattle.eb_term.specs.declared.operators.Side.{Side}
use Rattle.eb_term.specs.declared.operators.Side.TheVariants as side
use Rattle.int_dom.specs.declared.interval.Interval.{Interval}
use Rattle.int_dom.specs.Intervals.{Has}
use Rattle.occ_domains.specs.declared.body.Body.{Body, Body-F, out-Body}
use Rattle.occ_domains.specs.declared.body.Body.TheOpen as body
use Rattle.occ_domains.specs.declared.domain.Truths.{Truths}
use Rattle.occ_domains.specs.declared.domain.Domain.{Domain}
use Rattle.occ_domains.specs.declared.domain.Domain.TheVariants as domain
use Rattle.occ_domains.specs.Bodies as bodies
use Rattle.occ_domains.specs.Domains as domains
use Rattle.occ_domains.specs.Domains.{Outcome, slot, has, has_truth, has_slot}
use Rattle.rules_integers.specs.declared.arithmetic.Arithmetic.{Arithmetic}
use Rattle.rules_integers.specs.Arithmetic.{value_at, down_by}
use Rattle.rules_integers.specs.Arithmetic as integers
use Rattle.rules_integers.specs.Sums.{at_most, down_at_most}
use Rattle.rules_base.specs.declared.rule.BinaryRule.{BinaryRule}
use Rattle.rules_base.specs.declared.rule.BinaryRule.TheVariants as two
use Rattle.rules_base.specs.Connectives as connectives
use Rattle.rules_base.specs.Definedness.{is_true_alone, is_false_alone}
use Rattle.rules_base.specs.Pairs.{side_layer, side_of, down_pair}
use Rattle.rules_base.specs.Comparisons.{but_for, unequal, down_equal, bounded_layers, bounded, down_order}
use Rattle.rules_base.specs.Integers.{down_layers, down_integers}
use Rattle.rules_base.specs.Outcomes.{of_sides, is_ranged, is_ranged_layer}
use Rattle.rules_base.specs.Rules.{where_defined, down_truths, down_compared, down_operand, down_two}
use Rattle.rules_base.proofs.ConnectiveLaws.{down_has}
use Rattle.rules_base.proofs.Known as known
use Rattle.rules_base.proofs.Known.{Bodies, Order, Integers, both_true, first_true, second_true, some_of}
use Rattle.rules_base.proofs.UpLaws.{has_of}

-- ---- what is alone

alone_true : (w : Truths) (b : Bool) → is_true_alone w ≡ true → has_truth w (truth_of b) ≡ true → b ≡ true
alone_true w true a h = refl
alone_true w false a h = grind (rules, a, h)

alone_false : (w : Truths) (b : Bool) → is_false_alone w ≡ true → has_truth w (truth_of b) ≡ true → b ≡ false
alone_false w false a h = refl
alone_false w true a h = grind (rules, a, h)

-- ---- `=`

module _ (bodies_known : Bodies) (order : Order) where
  unequal_has : (a b : Body) (v w : Value) → bodies.has a v ≡ true → bodies.has b w ≡ true → same v w ≡ false → bodies.has (unequal a b) v ≡ true
  unequal_has a b v w h k e = at (bodies.single b) refl where
    at : (x : Option Value) → bodies.single b ≡ x → bodies.has (but_for a x) v ≡ true
    at None f = h
    at (Some q) f = bodies_known.without a v q h (sym (ap (same v) (bodies_known.single b q w f k)) ∙ e)

  equal_kept : (t : Truths) (a b : Body) (v w : Value) → bodies.has a v ≡ true → bodies.has b w ≡ true → has_truth t (truth_of (same v w)) ≡ true → bodies.has (down_equal t a b) v ≡ true
  equal_kept t a b v w h k e = at (is_true_alone t) (is_false_alone t) refl refl where
    at : (c d : Bool) → is_true_alone t ≡ c → is_false_alone t ≡ d → bodies.has (down_equal t a b) v ≡ true
    at true d f g =
        let one : v ≡ w = known.same_is order v w (alone_true t (same v w) f e) in
        rw f (bodies_known.meet a b v ∙ both_true (bodies.has a v) (bodies.has b v) h (ap (bodies.has b) one ∙ k))
    at false true f g = rw (f, g) (unequal_has a b v w h k (alone_false t (same v w) g e))
    at false false f g = rw (f, g) h

-- ---- `<=`

within_both : (c d : Interval) (m : ℤ) → (int_le c.lo m && int_le m c.hi) ≡ true → Has d m → (int_le (int_max c.lo d.lo) m && int_le m (int_min c.hi d.hi)) ≡ true
within_both c d m h k = grind (arith, ints, k.0, k.1)

module _ (bodies_known : Bodies) (integers_known : Integers) where
  common_has : (c d : Interval) (v : Value) (m : ℤ) → layer v ≡ val.Int m → (int_le c.lo m && int_le m c.hi) ≡ true → Has d m → bodies.has (bodies.integers (bodies.common c d)) v ≡ true
  common_has c d v m e h k = bodies_known.integers (bodies.common c d) v ∙ ap (bodies.has_at (body.Integers (bodies.common c d)) v) e ∙ within_both c d m h k

  bounded_at : (s : Side) (b : Bool) (A B : Body-F Body) (a : Body) (v w : Value) (L M : Layer) → layer v ≡ L → is_ranged_layer L ≡ true → bodies.has a v ≡ true → bodies.has_at A v L ≡ true → bodies.has_at B w M ≡ true
      → ((m n : ℤ) → L ≡ val.Int m → M ≡ val.Int n → at_most s m n ≡ b) → bodies.has (bounded_layers s b A B a) v ≡ true
  bounded_at s b (body.Integers c) (body.Integers d) a v w (val.Int m) (val.Int n) e r i h k o =
      common_has c (down_at_most s b d) v m e h (integers_known.at_most s b d m n r (has_of d n k) (o m n refl refl))
  bounded_at s b (body.Integers c) (body.Integers d) a v w (val.Int m) _ e r i h k o = cc
  bounded_at s b (body.Integers c) (body.Integers d) a v w _ M e r i h k o = cc
  bounded_at s b (body.Integers c) body.Empty a v w L M e r i h k o = i
  bounded_at s b (body.Integers c) (body.Members ys) a v w L M e r i h k o = i
  bounded_at s b (body.Integers c) (body.Pairs x y) a v w L M e r i h k o = i
  bounded_at s b (body.Integers c) body.AllSets a v w L M e r i h k o = i
  bounded_at s b body.Empty B a v w L M e r i h k o = i
  bounded_at s b (body.Members xs) B a v w L M e r i h k o = i
  bounded_at s b (body.Pairs x y) B a v w L M e r i h k o = i
  bounded_at s b body.AllSets B a v w L M e r i h k o = i

abbrev le : ℤ → ℤ → Option Bool
le m n = Some (int_le m n)

-- the order of two values, where a side and the other side are given
abbrev order_of : Side → Value → Value → Option Bool
order_of side.First v w = with_ints le v w
order_of side.Second v w = with_ints le w v

order_on : (s : Side) (v w : Value) (m n : ℤ) → layer v ≡ val.Int m → layer w ≡ val.Int n → order_of s v w ≡ Some (at_most s m n)
order_on side.First v w m n e f = rw (e, f) refl
order_on side.Second v w m n e f = rw (e, f) refl

module _ (bodies_known : Bodies) (integers_known : Integers) where
  order_kept : (s : Side) (t : Truths) (a b : Body) (v w : Value) → is_ranged_layer (layer v) ≡ true → bodies.has a v ≡ true → bodies.has b w ≡ true
      → has_truth t (tested (order_of s v w)) ≡ true → bodies.has (down_order s t a b) v ≡ true
  order_kept s t a b v w r h k o = at (is_true_alone t) (is_false_alone t) refl refl where
    said : (m n : ℤ) → layer v ≡ val.Int m → layer w ≡ val.Int n → has_truth t (truth_of (at_most s m n)) ≡ true
    said m n e f = subst (λ x. has_truth t (tested x) ≡ true) (order_on s v w m n e f) o

    by : (c : Bool) → ((m n : ℤ) → layer v ≡ val.Int m → layer w ≡ val.Int n → at_most s m n ≡ c) → bodies.has (bounded s c a b) v ≡ true
    by c i = bounded_at bodies_known integers_known s c (out-Body a) (out-Body b) a v w (layer v) (layer w) refl r h (sym (bodies_known.layers a v) ∙ h) (sym (bodies_known.layers b w) ∙ k) i

    at : (c d : Bool) → is_true_alone t ≡ c → is_false_alone t ≡ d → bodies.has (down_order s t a b) v ≡ true
    at true d f g = rw f (by true (λ m n i j. alone_true t (at_most s m n) f (said m n i j)))
    at false true f g = rw (f, g) (by false (λ m n i j. alone_false t (at_most s m n) g (said m n i j)))
    at false false f g = rw (f, g) h

-- ---- pairs

layer-pair : (v w : Value) → layer (pair v w) ≡ val.Pair v w
layer-pair v w = search (rules, value_rules)

abbrev pair_at : Side → Value → Value → Value
pair_at side.First v w = pair v w
pair_at side.Second v w = pair w v

module _ (bodies_known : Bodies) where
  side_first : (W : Body-F Body) (a : Body) (p v w : Value) → bodies.has a v ≡ true → bodies.has_at W p (val.Pair v w) ≡ true → bodies.has (side_layer side.First W a) v ≡ true
  side_first (body.Pairs x y) a p v w h k = bodies_known.meet a x v ∙ both_true (bodies.has a v) (bodies.has x v) h (first_true (bodies.has x v) (bodies.has y w) k)
  side_first body.Empty a p v w h k = h
  side_first (body.Integers d) a p v w h k = h
  side_first (body.Members xs) a p v w h k = h
  side_first body.AllSets a p v w h k = h

  side_second : (W : Body-F Body) (a : Body) (p v w : Value) → bodies.has a v ≡ true → bodies.has_at W p (val.Pair w v) ≡ true → bodies.has (side_layer side.Second W a) v ≡ true
  side_second (body.Pairs x y) a p v w h k = bodies_known.meet a y v ∙ both_true (bodies.has a v) (bodies.has y v) h (second_true (bodies.has x w) (bodies.has y v) k)
  side_second body.Empty a p v w h k = h
  side_second (body.Integers d) a p v w h k = h
  side_second (body.Members xs) a p v w h k = h
  side_second body.AllSets a p v w h k = h

  side_has : (s : Side) (whole a : Body) (v w : Value) → bodies.has a v ≡ true → bodies.has whole (pair_at s v w) ≡ true → bodies.has (side_of s whole a) v ≡ true
  side_has side.First whole a v w h k =
      side_first (out-Body whole) a (pair v w) v w h (ap (bodies.has_at (out-Body whole) (pair v w)) (sym (layer-pair v w)) ∙ sym (bodies_known.layers whole (pair v w)) ∙ k)
  side_has side.Second whole a v w h k =
      side_second (out-Body whole) a (pair w v) v w h (ap (bodies.has_at (out-Body whole) (pair w v)) (sym (layer-pair w v)) ∙ sym (bodies_known.layers whole (pair w v)) ∙ k)

  pair_kept : (s : Side) (whole a other : Body) (v w : Value) → bodies.has a v ≡ true → bodies.has whole (pair_at s v w) ≡ true → bodies.has (down_pair s whole a other) v ≡ true
  pair_kept s whole a other v w h k = at (bodies.is_empty other) refl where
    at : (c : Bool) → bodies.is_empty other ≡ c → bodies.has (down_pair s whole a other) v ≡ true
    at true e = rw e h
    at false e = rw e (side_has s whole a v w h k)

-- ---- arithmetic

-- the value of an operator, where a side and the other side are given
abbrev value_of : Arithmetic → Side → Value → Value → Option Value
value_of o side.First v w = with_ints (integers.value_by o) v w
value_of o side.Second v w = with_ints (integers.value_by o) w v

value_on : (o : Arithmetic) (s : Side) (v w : Value) (m n : ℤ) → layer v ≡ val.Int m → layer w ≡ val.Int n → value_of o s v w ≡ value_at o s m n
value_on o side.First v w m n e f = rw (e, f) refl
value_on o side.Second v w m n e f = rw (e, f) refl

module _ (bodies_known : Bodies) (integers_known : Integers) (o : Arithmetic) where
  down_at : (s : Side) (W A B : Body-F Body) (a : Body) (v w z : Value) (L M : Layer) → layer v ≡ L → is_ranged_layer L ≡ true → is_ranged_layer M ≡ true
      → bodies.has a v ≡ true → bodies.has_at A v L ≡ true → bodies.has_at B w M ≡ true → bodies.has_at W z (layer z) ≡ true
      → ((m n : ℤ) → L ≡ val.Int m → M ≡ val.Int n → value_at o s m n ≡ Some z) → bodies.has (down_layers o s W A B a) v ≡ true
  down_at s (body.Integers e) (body.Integers c) (body.Integers d) a v w z (val.Int m) (val.Int n) f r q i h k j g =
      common_has bodies_known integers_known c (down_by o s e c d) v m f h (integers_known.down o s e c d m n z r q (g m n refl refl) j (has_of c m h) (has_of d n k))
  down_at s (body.Integers e) (body.Integers c) (body.Integers d) a v w z (val.Int m) _ f r q i h k j g = cc
  down_at s (body.Integers e) (body.Integers c) (body.Integers d) a v w z _ M f r q i h k j g = cc
  down_at s (body.Integers e) (body.Integers c) body.Empty a v w z L M f r q i h k j g = i
  down_at s (body.Integers e) (body.Integers c) (body.Members ys) a v w z L M f r q i h k j g = i
  down_at s (body.Integers e) (body.Integers c) (body.Pairs x y) a v w z L M f r q i h k j g = i
  down_at s (body.Integers e) (body.Integers c) body.AllSets a v w z L M f r q i h k j g = i
  down_at s (body.Integers e) body.Empty B a v w z L M f r q i h k j g = i
  down_at s (body.Integers e) (body.Members xs) B a v w z L M f r q i h k j g = i
  down_at s (body.Integers e) (body.Pairs x y) B a v w z L M f r q i h k j g = i
  down_at s (body.Integers e) body.AllSets B a v w z L M f r q i h k j g = i
  down_at s body.Empty A B a v w z L M f r q i h k j g = i
  down_at s (body.Members xs) A B a v w z L M f r q i h k j g = i
  down_at s (body.Pairs x y) A B a v w z L M f r q i h k j g = i
  down_at s body.AllSets A B a v w z L M f r q i h k j g = i

  arithmetic_kept : (s : Side) (whole a b : Body) (v w z : Value) → is_ranged_layer (layer v) ≡ true → is_ranged_layer (layer w) ≡ true → bodies.has a v ≡ true → bodies.has b w ≡ true
      → value_of o s v w ≡ Some z → bodies.has whole z ≡ true → bodies.has (down_integers o s whole a b) v ≡ true
  arithmetic_kept s whole a b v w z r q h k e j =
      down_at s (out-Body whole) (out-Body a) (out-Body b) a v w z (layer v) (layer w) refl r q h (sym (bodies_known.layers a v) ∙ h) (sym (bodies_known.layers b w) ∙ k) (sym (bodies_known.layers whole z) ∙ j)
      (λ m n f g. sym (value_on o s v w m n f g) ∙ e)

-- ---- by operator

truths_kept : (rule : BinaryRule) (s : Side) (w t o : Truths) (p q : Truth3) (z : Outcome) → has_truth t p ≡ true → has_truth o q ≡ true → of_sides rule s (domains.truth p) (domains.truth q) ≡ Some z
    → has (domain.Truths w) z ≡ true → has_truth (down_truths rule s w t o) p ≡ true
truths_kept (two.Connective c) side.First w t o p q z h k e j =
    down_has c side.First w t o p q h k (subst (λ x. has (domain.Truths w) x ≡ true) (sym (some_of (domains.truth (connectives.truth_by c p q)) z e)) j)
truths_kept (two.Connective c) side.Second w t o p q z h k e j =
    down_has c side.Second w t o p q h k (subst (λ x. has (domain.Truths w) x ≡ true) (sym (some_of (domains.truth (connectives.truth_by c q p)) z e)) j)
truths_kept two.Equal s w t o p q z h k e j = h
truths_kept two.AtMost s w t o p q z h k e j = h
truths_kept two.Pair s w t o p q z h k e j = h
truths_kept (two.Arithmetic a) s w t o p q z h k e j = h

-- what is given of both sides, in their order
abbrev in_order : {A : Type 0} → Side → (Value → Value → Option A) → Option Value → Option Value → Option A
in_order side.First f e g = with_two f e g
in_order side.Second f e g = with_two f g e

none_given : {A : Type 0} (f : Value → Value → Option A) (g : Option Value) → with_two f g None ≡ None
none_given f None = refl
none_given f (Some v) = refl

without_first : {A : Type 0} (s : Side) (f : Value → Value → Option A) (g : Option Value) → in_order s f None g ≡ None
without_first side.First f g = refl
without_first side.Second f g = none_given f g

without_second : {A : Type 0} (s : Side) (f : Value → Value → Option A) (v : Value) → in_order s f (Some v) None ≡ None
without_second side.First f v = refl
without_second side.Second f v = refl

-- nothing comes of both, and Undefined isn't one of the truths
none_said : {A : Type 0} (w : Truths) (x : Option Bool) → w.can_be_undefined ≡ false → x ≡ None → has_truth w (tested x) ≡ true → A
none_said w x f e h =
    let k : w.can_be_undefined ≡ true = sym (ap (λ y. has_truth w (tested y)) e) ∙ h in
    let l : false ≡ true = sym f ∙ k in
    cc

module _ (bodies_known : Bodies) (order : Order) (integers_known : Integers) where
  equal_down : (s : Side) (w : Truths) (a b : Body) (v u : Value) → bodies.has a v ≡ true → bodies.has b u ≡ true
      → has_truth w (tested (in_order s (test_by op.Equal) (Some v) (Some u))) ≡ true → bodies.has (down_equal w a b) v ≡ true
  equal_down side.First w a b v u h k j = equal_kept bodies_known order w a b v u h k j
  equal_down side.Second w a b v u h k j = equal_kept bodies_known order w a b v u h k (ap (λ c. has_truth w (truth_of c)) (sym (known.turned order v u)) ∙ j)

  order_down : (s : Side) (w : Truths) (a b : Body) (v u : Value) → is_ranged_layer (layer v) ≡ true → bodies.has a v ≡ true → bodies.has b u ≡ true
      → has_truth w (tested (in_order s (test_by op.AtMost) (Some v) (Some u))) ≡ true → bodies.has (down_order s w a b) v ≡ true
  order_down side.First w a b v u r h k j = order_kept bodies_known integers_known side.First w a b v u r h k j
  order_down side.Second w a b v u r h k j = order_kept bodies_known integers_known side.Second w a b v u r h k j

  equal_given : (s : Side) (w : Truths) (a b : Body) (u t : Bool) (e f : Option Value) → w.can_be_undefined ≡ false → has_slot a u e ≡ true → has_slot b t f ≡ true
      → has_truth w (tested (in_order s (test_by op.Equal) e f)) ≡ true → has_slot (down_equal w a b) false e ≡ true
  equal_given s w a b u t None f d h k j = none_said w (in_order s (test_by op.Equal) None f) d (without_first s (test_by op.Equal) f) j
  equal_given s w a b u t (Some v) None d h k j = none_said w (in_order s (test_by op.Equal) (Some v) None) d (without_second s (test_by op.Equal) v) j
  equal_given s w a b u t (Some v) (Some x) d h k j = equal_down s w a b v x h k j

  order_given : (s : Side) (w : Truths) (a b : Body) (u t : Bool) (e f : Option Value) → w.can_be_undefined ≡ false → is_ranged (slot e) ≡ true → has_slot a u e ≡ true → has_slot b t f ≡ true
      → has_truth w (tested (in_order s (test_by op.AtMost) e f)) ≡ true → has_slot (down_order s w a b) false e ≡ true
  order_given s w a b u t None f d r h k j = none_said w (in_order s (test_by op.AtMost) None f) d (without_first s (test_by op.AtMost) f) j
  order_given s w a b u t (Some v) None d r h k j = none_said w (in_order s (test_by op.AtMost) (Some v) None) d (without_second s (test_by op.AtMost) v) j
  order_given s w a b u t (Some v) (Some x) d r h k j = order_down s w a b v x r h k j

  tested_sides : (s : Side) (e f : Option Value) → of_sides two.Equal s (slot e) (slot f) ≡ Some (domains.truth (tested (in_order s (test_by op.Equal) e f)))
  tested_sides side.First e f = refl
  tested_sides side.Second e f = refl

  ordered_sides : (s : Side) (e f : Option Value) → of_sides two.AtMost s (slot e) (slot f) ≡ Some (domains.truth (tested (in_order s (test_by op.AtMost) e f)))
  ordered_sides side.First e f = refl
  ordered_sides side.Second e f = refl

  -- the outcome is that of the whole
  of_whole : (w : Domain) (x y : Outcome) (o : Option Outcome) → o ≡ Some x → o ≡ Some y → has w y ≡ true → has w x ≡ true
  of_whole w x y o f g h = subst (λ z. has w z ≡ true) (some_of y x (sym g ∙ f)) h

  compared_kept : (rule : BinaryRule) (s : Side) (w : Truths) (a b : Body) (u t : Bool) (e f : Option Value) (z : Outcome) → w.can_be_undefined ≡ false → is_ranged (slot e) ≡ true → has_slot a u e ≡ true → has_slot b t f ≡ true
      → of_sides rule s (slot e) (slot f) ≡ Some z → has (domain.Truths w) z ≡ true → has_slot (down_compared rule s w a b) false e ≡ true
  compared_kept two.Equal s w a b u t e f z d r h k i j =
      equal_given s w a b u t e f d h k (of_whole (domain.Truths w) (domains.truth (tested (in_order s (test_by op.Equal) e f))) z (of_sides two.Equal s (slot e) (slot f)) (tested_sides s e f) i j)
  compared_kept two.AtMost s w a b u t e f z d r h k i j =
      order_given s w a b u t e f d r h k (of_whole (domain.Truths w) (domains.truth (tested (in_order s (test_by op.AtMost) e f))) z (of_sides two.AtMost s (slot e) (slot f)) (ordered_sides s e f) i j)
  compared_kept two.Pair side.First w a b u t e f z d r h k i j = let n = of_whole (domain.Truths w) (slot (with_two (value_by op.MapsTo) e f)) z (of_sides two.Pair side.First (slot e) (slot f)) refl i j in cc
  compared_kept two.Pair side.Second w a b u t e f z d r h k i j = let n = of_whole (domain.Truths w) (slot (with_two (value_by op.MapsTo) f e)) z (of_sides two.Pair side.Second (slot e) (slot f)) refl i j in cc
  compared_kept (two.Arithmetic o) side.First w a b u t e f z d r h k i j = let n = of_whole (domain.Truths w) (slot (with_two (with_ints (integers.value_by o)) e f)) z (of_sides (two.Arithmetic o) side.First (slot e) (slot f)) refl i j in cc
  compared_kept (two.Arithmetic o) side.Second w a b u t e f z d r h k i j = let n = of_whole (domain.Truths w) (slot (with_two (with_ints (integers.value_by o)) f e)) z (of_sides (two.Arithmetic o) side.Second (slot e) (slot f)) refl i j in cc
  compared_kept (two.Connective c) side.First w a b u t e f z d r h k i j = cc
  compared_kept (two.Connective c) side.Second w a b u t e f z d r h k i j = cc

  -- nothing comes of both, and the whole has a value
  none_had : {A : Type 0} (whole : Body) (x : Option Value) → x ≡ None → has_slot whole false x ≡ true → A
  none_had whole x e h =
      let k : false ≡ true = sym (ap (has_slot whole false) e) ∙ h in
      cc

  pair_given : (s : Side) (whole a b : Body) (u t : Bool) (e f : Option Value) → has_slot a u e ≡ true → has_slot b t f ≡ true
      → has_slot whole false (in_order s (value_by op.MapsTo) e f) ≡ true → has_slot (down_pair s whole a b) false e ≡ true
  pair_given s whole a b u t None f h k j = none_had whole (in_order s (value_by op.MapsTo) None f) (without_first s (value_by op.MapsTo) f) j
  pair_given s whole a b u t (Some v) None h k j = none_had whole (in_order s (value_by op.MapsTo) (Some v) None) (without_second s (value_by op.MapsTo) v) j
  pair_given side.First whole a b u t (Some v) (Some x) h k j = pair_kept bodies_known side.First whole a b v x h j
  pair_given side.Second whole a b u t (Some v) (Some x) h k j = pair_kept bodies_known side.Second whole a b v x h j

  arithmetic_given : (o : Arithmetic) (s : Side) (whole a b : Body) (u t : Bool) (e f : Option Value) → is_ranged (slot e) ≡ true → is_ranged (slot f) ≡ true → has_slot a u e ≡ true → has_slot b t f ≡ true
      → has_slot whole false (in_order s (with_ints (integers.value_by o)) e f) ≡ true → has_slot (down_integers o s whole a b) false e ≡ true
  arithmetic_given o s whole a b u t None f r q h k j = none_had whole (in_order s (with_ints (integers.value_by o)) None f) (without_first s (with_ints (integers.value_by o)) f) j
  arithmetic_given o s whole a b u t (Some v) None r q h k j = none_had whole (in_order s (with_ints (integers.value_by o)) (Some v) None) (without_second s (with_ints (integers.value_by o)) v) j
  arithmetic_given o s whole a b u t (Some v) (Some x) r q h k j = at (value_of o s v x) refl where
    same_value : in_order s (with_ints (integers.value_by o)) (Some v) (Some x) ≡ value_of o s v x
    same_value = by s where
      by : (s : Side) → in_order s (with_ints (integers.value_by o)) (Some v) (Some x) ≡ value_of o s v x
      by side.First = refl
      by side.Second = refl

    at : (y : Option Value) → value_of o s v x ≡ y → bodies.has (down_integers o s whole a b) v ≡ true
    at None e = none_had whole (in_order s (with_ints (integers.value_by o)) (Some v) (Some x)) (same_value ∙ e) j
    at (Some z) e = arithmetic_kept bodies_known integers_known o s whole a b v x z r q h k e (sym (ap (has_slot whole false) (same_value ∙ e)) ∙ j)

  operand_kept : (rule : BinaryRule) (s : Side) (whole a b : Body) (u t : Bool) (e f : Option Value) (z : Outcome) → is_ranged (slot e) ≡ true → is_ranged (slot f) ≡ true → has_slot a u e ≡ true → has_slot b t f ≡ true
      → of_sides rule s (slot e) (slot f) ≡ Some z → has (domain.Values whole false) z ≡ true → has_slot (down_operand rule s whole a b) false e ≡ true
  operand_kept two.Pair side.First whole a b u t e f z r q h k i j =
      pair_given side.First whole a b u t e f h k (of_whole (domain.Values whole false) (slot (with_two (value_by op.MapsTo) e f)) z (of_sides two.Pair side.First (slot e) (slot f)) refl i j)
  operand_kept two.Pair side.Second whole a b u t e f z r q h k i j =
      pair_given side.Second whole a b u t e f h k (of_whole (domain.Values whole false) (slot (with_two (value_by op.MapsTo) f e)) z (of_sides two.Pair side.Second (slot e) (slot f)) refl i j)
  operand_kept (two.Arithmetic o) side.First whole a b u t e f z r q h k i j =
      arithmetic_given o side.First whole a b u t e f r q h k (of_whole (domain.Values whole false) (slot (with_two (with_ints (integers.value_by o)) e f)) z (of_sides (two.Arithmetic o) side.First (slot e) (slot f)) refl i j)
  operand_kept (two.Arithmetic o) side.Second whole a b u t e f z r q h k i j =
      arithmetic_given o side.Second whole a b u t e f r q h k (of_whole (domain.Values whole false) (slot (with_two (with_ints (integers.value_by o)) f e)) z (of_sides (two.Arithmetic o) side.Second (slot e) (slot f)) refl i j)
  operand_kept two.Equal s whole a b u t e f z r q h k i j =
      let n = of_whole (domain.Values whole false) (domains.truth (tested (in_order s (test_by op.Equal) e f))) z (of_sides two.Equal s (slot e) (slot f)) (tested_sides s e f) i j in cc
  operand_kept two.AtMost s whole a b u t e f z r q h k i j =
      let n = of_whole (domain.Values whole false) (domains.truth (tested (in_order s (test_by op.AtMost) e f))) z (of_sides two.AtMost s (slot e) (slot f)) (ordered_sides s e f) i j in cc
  operand_kept (two.Connective c) side.First whole a b u t e f z r q h k i j = cc
  operand_kept (two.Connective c) side.Second whole a b u t e f z r q h k i j = cc

  defined_kept : (c : Bool) (kept b : Body) (u : Bool) (e : Option Value) → has_slot b u e ≡ true → (c ≡ false → has_slot kept false e ≡ true) → has (where_defined c kept b u) (slot e) ≡ true
  defined_kept true kept b u e h k = h
  defined_kept false kept b u e h k = k refl

  pub down_two_has : (rule : BinaryRule) (s : Side) (w a b : Domain) (x y z : Outcome) → is_ranged x ≡ true → is_ranged y ≡ true → has a x ≡ true → has b y ≡ true
      → of_sides rule s x y ≡ Some z → has w z ≡ true → has (down_two rule s w a b) x ≡ true
  down_two_has rule s (domain.Truths w) (domain.Truths t) (domain.Truths o) (domains.truth p) (domains.truth q) z r q' h k i j = truths_kept rule s w t o p q z h k i j
  down_two_has rule s (domain.Truths w) (domain.Values a u) (domain.Values b t) (slot e) (slot f) z r q h k i j =
      defined_kept w.can_be_undefined (down_compared rule s w a b) a u e h (λ d. compared_kept rule s w a b u t e f z d r h k i j)
  down_two_has rule s (domain.Values w c) (domain.Values a u) (domain.Values b t) (slot e) (slot f) z r q h k i j =
      defined_kept c (down_operand rule s w a b) a u e h (λ d. operand_kept rule s w a b u t e f z r q h k i (sym (ap (λ g. has (domain.Values w g) z) d) ∙ j))
  down_two_has rule s (domain.Truths w) (domain.Truths t) (domain.Values b v) x y z r q h k i j = h
  down_two_has rule s (domain.Truths w) (domain.Values a u) (domain.Truths o) x y z r q h k i j = h
  down_two_has rule s (domain.Values w c) (domain.Truths t) b x y z r q h k i j = h
  down_two_has rule s (domain.Values w c) (domain.Values a u) (domain.Truths o) x y z r q h k i j = h
  down_two_has rule s (domain.Truths w) (domain.Truths t) (domain.Truths o) (slot e) y z r q h k i j = cc
  down_two_has rule s (domain.Truths w) (domain.Truths t) (domain.Truths o) (domains.truth p) (slot f) z r q h k i j = cc
  down_two_has rule s w (domain.Values a u) (domain.Values b t) (domains.truth p) y z r q h k i j = cc
  down_two_has rule s w (domain.Values a u) (domain.Values b t) (slot e) (domains.truth q') z r q h k i j = cc
