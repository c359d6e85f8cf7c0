-- Up of operators on two parts is sound.
use Rattle.std.proofs.Common.{◌≡◌, ◌∙◌, ℤ, int_le, Bool, true, false, not, ◌&&◌, ◌||◌, Option, Some, None, refl, sym, ap, subst, rules, arith}
use Rattle.std.specs.Prelude.{option_and_then}
use Rattle.std.proofs.lemmas.Int.{ints}
use Rattle.eb_syntax.specs.declared.ast.Operator.TheVariants as op
use Rattle.eb_value.specs.declared.value.Value.{Value, the_lemmas as value_rules}
use Rattle.eb_value.specs.declared.value.Form.TheOpen as val
use Rattle.eb_value.specs.Values.{Layer, layer, pair}
use Rattle.eb_value.specs.Comprehensions.{same}
use Rattle.eb_operations.specs.declared.truth3.Truth3.{Truth3}
use Rattle.eb_operations.specs.declared.truth3.Truth3.TheVariants.{True, False, Undefined}
use Rattle.eb_operations.specs.Truths.{truth_of, tested}
use Rattle.eb_operations.specs.Arithmetic.{int_of_layer}
use Rattle.eb_operations.specs.Operations.{with_two, with_ints, value_by}
use Rattle.eb_operations.specs.Tests.{test_by}
use Rattle.int_dom.specs.declared.interval.Interval.{Interval}
use Rattle.int_dom.specs.Intervals.{Has}
use Rattle.occ_domains.specs.declared.body.Body.{Body, Body-F, out-Body}
use Rattle.occ_domains.specs.declared.body.Body.TheOpen as body
use Rattle.occ_domains.specs.declared.domain.Truths.{Truths}
use Rattle.occ_domains.specs.declared.domain.Domain.{Domain}
use Rattle.occ_domains.specs.declared.domain.Domain.TheVariants as domain
use Rattle.occ_domains.specs.Bodies as bodies
use Rattle.occ_domains.specs.Domains as domains
use Rattle.occ_domains.specs.Domains.{Outcome, slot, has, has_truth, has_slot}
use Rattle.rules_integers.specs.declared.arithmetic.Arithmetic.{Arithmetic}
use Rattle.rules_integers.specs.Arithmetic as integers
use Rattle.rules_integers.specs.Sums.{up_at_most}
use Rattle.rules_base.specs.declared.connective.Connective.{Connective}
use Rattle.rules_base.specs.declared.rule.BinaryRule.{BinaryRule}
use Rattle.rules_base.specs.declared.rule.BinaryRule.TheVariants as two
use Rattle.rules_base.specs.Connectives.{truth_by, up, is_same as is_same_truth, some}
use Rattle.rules_base.specs.Comparisons.{with_undefined, are_one, up_equal, order_layers, up_order}
use Rattle.rules_base.specs.Integers.{up_layers, up_integers}
use Rattle.rules_base.specs.Outcomes.{of_two, is_ranged, is_ranged_layer}
use Rattle.rules_base.specs.Rules.{of_truths, of_values, up_two}
use Rattle.rules_base.proofs.ConnectiveLaws.{some_at, those_at}
use Rattle.rules_base.proofs.Known as known
use Rattle.rules_base.proofs.Known.{Bodies, Order, Integers, first_true, second_true, both_true, or_first, or_second, some_of}

-- ---- connectives

same_truth : (p : Truth3) → is_same_truth p p ≡ true
same_truth True = refl
same_truth False = refl
same_truth Undefined = refl

connective_has : (w : Connective) (s t : Truths) (p q : Truth3) → has_truth s p ≡ true → has_truth t q ≡ true → has_truth (up w s t) (truth_by w p q) ≡ true
connective_has w s t p q h k =
    let inner = some_at t (λ y. is_same_truth (truth_by w p y) (truth_by w p q)) q k (same_truth (truth_by w p q)) in
    those_at (λ r. some s (λ x. some t (λ y. is_same_truth (truth_by w x y) r))) (truth_by w p q)
    (some_at s (λ x. some t (λ y. is_same_truth (truth_by w x y) (truth_by w p q))) p h inner)

-- ---- integers, and what is none

abbrev pub is_interval : Body-F Body → Bool
is_interval (body.Integers d) = true
is_interval _ = false

-- a value of another body is no integer
pub no_integer : (B : Body-F Body) (v : Value) (L : Layer) → is_interval B ≡ false → bodies.has_at B v L ≡ true → int_of_layer L ≡ None
no_integer body.Empty v L f h = cc
no_integer (body.Integers d) v L f h = cc
no_integer (body.Members xs) v (val.Int n) f h = cc
no_integer (body.Members xs) v _ f h = refl
no_integer (body.Pairs x y) v (val.Pair a b) f h = refl
no_integer (body.Pairs x y) v _ f h = cc
no_integer body.AllSets v (val.Set xs) f h = refl
no_integer body.AllSets v _ f h = cc

module _ {A : Type 0} (f : ℤ → ℤ → Option A) where
  abbrev pub on_layers : Layer → Layer → Option A
  on_layers L M = option_and_then (λ m. option_and_then (λ n. f m n) (int_of_layer M)) (int_of_layer L)

  pub none_first : (L M : Layer) → int_of_layer L ≡ None → on_layers L M ≡ None
  none_first L M e = rw e refl

  pub none_second : (L M : Layer) → int_of_layer M ≡ None → on_layers L M ≡ None
  none_second L M e = rw e (at (int_of_layer L)) where
    at : (x : Option ℤ) → option_and_then (λ m. option_and_then (λ n. f m n) None) x ≡ None
    at None = refl
    at (Some m) = refl

-- ---- `=`

undefined_equal : (u : Bool) (a b : Body) → u ≡ true → has_truth (up_equal u a b) Undefined ≡ true
undefined_equal u a b h = at (bodies.is_empty a || bodies.is_empty b) refl where
  at : (c : Bool) → (bodies.is_empty a || bodies.is_empty b) ≡ c → has_truth (up_equal u a b) Undefined ≡ true
  at true e = rw e refl
  at false e = rw e h

module _ (bodies_known : Bodies) (order : Order) where
  pub not_empty : (b : Body) (v : Value) → bodies.has b v ≡ true → bodies.is_empty b ≡ false
  not_empty b v h = at (bodies.is_empty b) refl where
    at : (e : Bool) → bodies.is_empty b ≡ e → bodies.is_empty b ≡ false
    at false e = e
    at true e =
        let k : false ≡ true = sym (bodies_known.none b v e) ∙ h in
        cc

  not_one : (a b : Body) (v w : Value) → bodies.has a v ≡ true → bodies.has b w ≡ true → same v w ≡ false → (x y : Option Value) → bodies.single a ≡ x → bodies.single b ≡ y → are_one x y ≡ false
  not_one a b v w h k e (Some p) (Some q) f g =
      sym (ap (λ z. same z q) (bodies_known.single a p v f h)) ∙ sym (ap (same v) (bodies_known.single b q w g k)) ∙ e
  not_one a b v w h k e (Some p) None f g = refl
  not_one a b v w h k e None y f g = refl

  equal_values : (u : Bool) (a b : Body) (v w : Value) → bodies.has a v ≡ true → bodies.has b w ≡ true → has_truth (up_equal u a b) (truth_of (same v w)) ≡ true
  equal_values u a b v w h k = rw (not_empty a v h, not_empty b w k) (at (same v w) refl) where
    at : (c : Bool) → same v w ≡ c
        → has_truth (record { can_be_true = not (bodies.is_empty (bodies.meet a b)); can_be_false = not (are_one (bodies.single a) (bodies.single b)); can_be_undefined = u }) (truth_of (same v w)) ≡ true
    at true e = rw e (ap not (not_empty (bodies.meet a b) v (bodies_known.meet a b v ∙ both_true (bodies.has a v) (bodies.has b v) h (ap (bodies.has b) (known.same_is order v w e) ∙ k))))
    at false e = rw e (ap not (not_one a b v w h k e (bodies.single a) (bodies.single b) refl refl))

  pub equal_has : (a b : Body) (u t : Bool) (e f : Option Value) → has_slot a u e ≡ true → has_slot b t f ≡ true → has_truth (up_equal (u || t) a b) (tested (with_two (test_by op.Equal) e f)) ≡ true
  equal_has a b u t None f h k = undefined_equal (u || t) a b (or_first u t h)
  equal_has a b u t (Some v) None h k = undefined_equal (u || t) a b (or_second u t k)
  equal_has a b u t (Some v) (Some w) h k = equal_values (u || t) a b v w h k

-- ---- `<=`

undefined_order : (u : Bool) (A B : Body-F Body) → u ≡ true → has_truth (order_layers u A B) Undefined ≡ true
undefined_order u (body.Integers c) (body.Integers d) h = h
undefined_order u (body.Integers c) body.Empty h = refl
undefined_order u (body.Integers c) (body.Members xs) h = refl
undefined_order u (body.Integers c) (body.Pairs x y) h = refl
undefined_order u (body.Integers c) body.AllSets h = refl
undefined_order u body.Empty B h = refl
undefined_order u (body.Members xs) B h = refl
undefined_order u (body.Pairs x y) B h = refl
undefined_order u body.AllSets B h = refl

at_most_has : (u : Bool) (c d : Interval) (m n : ℤ) → (int_le c.lo m && int_le m c.hi) ≡ true → (int_le d.lo n && int_le n d.hi) ≡ true
    → has_truth (with_undefined u (up_at_most c d)) (truth_of (int_le m n)) ≡ true
at_most_has u c d m n h k = at (int_le m n) refl where
  at : (b : Bool) → int_le m n ≡ b → has_truth (with_undefined u (up_at_most c d)) (truth_of (int_le m n)) ≡ true
  at true e = rw e (grind (arith, ints))
  at false e = rw e (grind (arith, ints))

abbrev le : ℤ → ℤ → Option Bool
le m n = Some (int_le m n)

order_at : (u : Bool) (A B : Body-F Body) (v w : Value) (L M : Layer) → bodies.has_at A v L ≡ true → bodies.has_at B w M ≡ true → has_truth (order_layers u A B) (tested (on_layers le L M)) ≡ true
order_at u (body.Integers c) (body.Integers d) v w (val.Int m) (val.Int n) h k = at_most_has u c d m n h k
order_at u (body.Integers c) (body.Integers d) v w (val.Int m) _ h k = cc
order_at u (body.Integers c) (body.Integers d) v w _ M h k = cc
order_at u (body.Integers c) body.Empty v w L M h k = cc
order_at u (body.Integers c) (body.Members ys) v w L M h k = rw (none_second le L M (no_integer (body.Members ys) w M refl k)) refl
order_at u (body.Integers c) (body.Pairs x y) v w L M h k = rw (none_second le L M (no_integer (body.Pairs x y) w M refl k)) refl
order_at u (body.Integers c) body.AllSets v w L M h k = rw (none_second le L M (no_integer body.AllSets w M refl k)) refl
order_at u body.Empty B v w L M h k = cc
order_at u (body.Members xs) B v w L M h k = rw (none_first le L M (no_integer (body.Members xs) v L refl h)) refl
order_at u (body.Pairs x y) B v w L M h k = rw (none_first le L M (no_integer (body.Pairs x y) v L refl h)) refl
order_at u body.AllSets B v w L M h k = rw (none_first le L M (no_integer body.AllSets v L refl h)) refl

module _ (bodies_known : Bodies) where
  order_has : (a b : Body) (u t : Bool) (e f : Option Value) → has_slot a u e ≡ true → has_slot b t f ≡ true → has_truth (up_order (u || t) a b) (tested (with_two (test_by op.AtMost) e f)) ≡ true
  order_has a b u t None f h k = undefined_order (u || t) (out-Body a) (out-Body b) (or_first u t h)
  order_has a b u t (Some v) None h k = undefined_order (u || t) (out-Body a) (out-Body b) (or_second u t k)
  order_has a b u t (Some v) (Some w) h k = order_at (u || t) (out-Body a) (out-Body b) v w (layer v) (layer w) (sym (bodies_known.layers a v) ∙ h) (sym (bodies_known.layers b w) ∙ k)

  -- ---- pairs

  layer-pair : (v w : Value) → layer (pair v w) ≡ val.Pair v w
  layer-pair v w = search (rules, value_rules)

  pair_has : (a b : Body) (u t : Bool) (e f : Option Value) → has_slot a u e ≡ true → has_slot b t f ≡ true → has_slot (bodies.pairs a b) (u || t) (with_two (value_by op.MapsTo) e f) ≡ true
  pair_has a b u t None f h k = or_first u t h
  pair_has a b u t (Some v) None h k = or_second u t k
  pair_has a b u t (Some v) (Some w) h k = bodies_known.pairs a b (pair v w) ∙ ap (bodies.has_at (body.Pairs a b) (pair v w)) (layer-pair v w) ∙ both_true (bodies.has a v) (bodies.has b w) h k

-- ---- arithmetic

pub has_of : (d : Interval) (n : ℤ) → (int_le d.lo n && int_le n d.hi) ≡ true → Has d n
has_of d n h = grind (arith, ints)

module _ (bodies_known : Bodies) (integers_known : Integers) (o : Arithmetic) where
  undefined_layers : (u : Bool) (A B : Body-F Body) → u ≡ true → has (up_layers o u A B) (slot None) ≡ true
  undefined_layers u (body.Integers c) (body.Integers d) h = rw h (integers_known.undefined o c d)
  undefined_layers u (body.Integers c) body.Empty h = h
  undefined_layers u (body.Integers c) (body.Members xs) h = refl
  undefined_layers u (body.Integers c) (body.Pairs x y) h = refl
  undefined_layers u (body.Integers c) body.AllSets h = refl
  undefined_layers u body.Empty B h = h
  undefined_layers u (body.Members xs) body.Empty h = h
  undefined_layers u (body.Members xs) _ h = refl
  undefined_layers u (body.Pairs x y) body.Empty h = h
  undefined_layers u (body.Pairs x y) _ h = refl
  undefined_layers u body.AllSets body.Empty h = h
  undefined_layers u body.AllSets _ h = refl

  -- what has no value, where the other side has one, is Undefined
  abbrev Rises : Bool → Body-F Body → Body-F Body → Layer → Layer → Type 0
  Rises u A B L M = has (up_layers o u A B) (slot (on_layers (integers.value_by o) L M)) ≡ true

  integers_at : (u : Bool) (c d : Interval) (v w : Value) (L M : Layer) → is_ranged_layer L ≡ true → is_ranged_layer M ≡ true
      → bodies.has_at (body.Integers c) v L ≡ true → bodies.has_at (body.Integers d) w M ≡ true → Rises u (body.Integers c) (body.Integers d) L M
  integers_at u c d v w (val.Int m) (val.Int n) r s h k = integers_known.up o (not u) c d m n r s (has_of c m h) (has_of d n k)
  integers_at u c d v w (val.Int m) _ r s h k = cc
  integers_at u c d v w _ M r s h k = cc

  no_value : (u : Bool) (A B : Body-F Body) (L M : Layer) → has (up_layers o u A B) (slot None) ≡ true → on_layers (integers.value_by o) L M ≡ None → Rises u A B L M
  no_value u A B L M h e = rw e h

  other_first : (u : Bool) (A B : Body-F Body) (v w : Value) (L M : Layer) → is_interval A ≡ false → bodies.has_at A v L ≡ true → has (up_layers o u A B) (slot None) ≡ true → Rises u A B L M
  other_first u A B v w L M f h k = no_value u A B L M k (none_first (integers.value_by o) L M (no_integer A v L f h))

  apart : (u : Bool) (A B : Body-F Body) → is_interval A ≡ false → bodies.is_empty_layer A ≡ false → bodies.is_empty_layer B ≡ false → has (up_layers o u A B) (slot None) ≡ true
  apart u (body.Integers c) B f g k = cc
  apart u body.Empty B f g k = cc
  apart u (body.Members xs) body.Empty f g k = cc
  apart u (body.Members xs) _ f g k = refl
  apart u (body.Pairs x y) body.Empty f g k = cc
  apart u (body.Pairs x y) _ f g k = refl
  apart u body.AllSets body.Empty f g k = cc
  apart u body.AllSets _ f g k = refl

  filled_at : (B : Body-F Body) (w : Value) (M : Layer) → bodies.has_at B w M ≡ true → bodies.is_empty_layer B ≡ false
  filled_at body.Empty w M h = cc
  filled_at _ w M h = refl

  arithmetic_at : (u : Bool) (A B : Body-F Body) (v w : Value) (L M : Layer) → is_ranged_layer L ≡ true → is_ranged_layer M ≡ true
      → bodies.has_at A v L ≡ true → bodies.has_at B w M ≡ true → Rises u A B L M
  arithmetic_at u (body.Integers c) (body.Integers d) v w L M r s h k = integers_at u c d v w L M r s h k
  arithmetic_at u (body.Integers c) body.Empty v w L M r s h k = cc
  arithmetic_at u (body.Integers c) (body.Members ys) v w L M r s h k = no_value u (body.Integers c) (body.Members ys) L M refl (none_second (integers.value_by o) L M (no_integer (body.Members ys) w M refl k))
  arithmetic_at u (body.Integers c) (body.Pairs x y) v w L M r s h k = no_value u (body.Integers c) (body.Pairs x y) L M refl (none_second (integers.value_by o) L M (no_integer (body.Pairs x y) w M refl k))
  arithmetic_at u (body.Integers c) body.AllSets v w L M r s h k = no_value u (body.Integers c) body.AllSets L M refl (none_second (integers.value_by o) L M (no_integer body.AllSets w M refl k))
  arithmetic_at u body.Empty B v w L M r s h k = cc
  arithmetic_at u (body.Members xs) B v w L M r s h k = other_first u (body.Members xs) B v w L M refl h (apart u (body.Members xs) B refl refl (filled_at B w M k))
  arithmetic_at u (body.Pairs x y) B v w L M r s h k = other_first u (body.Pairs x y) B v w L M refl h (apart u (body.Pairs x y) B refl refl (filled_at B w M k))
  arithmetic_at u body.AllSets B v w L M r s h k = other_first u body.AllSets B v w L M refl h (apart u body.AllSets B refl refl (filled_at B w M k))

  arithmetic_has : (a b : Body) (u t : Bool) (e f : Option Value) → is_ranged (slot e) ≡ true → is_ranged (slot f) ≡ true → has_slot a u e ≡ true → has_slot b t f ≡ true
      → has (up_integers o (u || t) a b) (slot (with_two (with_ints (integers.value_by o)) e f)) ≡ true
  arithmetic_has a b u t None f r s h k = undefined_layers (u || t) (out-Body a) (out-Body b) (or_first u t h)
  arithmetic_has a b u t (Some v) None r s h k = undefined_layers (u || t) (out-Body a) (out-Body b) (or_second u t k)
  arithmetic_has a b u t (Some v) (Some w) r s h k =
      arithmetic_at (u || t) (out-Body a) (out-Body b) v w (layer v) (layer w) r s (sym (bodies_known.layers a v) ∙ h) (sym (bodies_known.layers b w) ∙ k)

-- ---- by operator

abbrev is_mixed : Outcome → Outcome → Bool
is_mixed (domains.truth p) (slot w) = true
is_mixed (slot v) (domains.truth q) = true
is_mixed _ _ = false

-- parts of different kinds make nothing
mixed : {A : Type 0} (rule : BinaryRule) (x y z : Outcome) → is_mixed x y ≡ true → of_two rule x y ≡ Some z → A
mixed (two.Connective w) (domains.truth p) (slot v) z f e = cc
mixed (two.Connective w) (slot v) y z f e = cc
mixed (two.Connective w) (domains.truth p) (domains.truth q) z f e = cc
mixed two.Equal (domains.truth p) y z f e = cc
mixed two.Equal (slot v) (domains.truth q) z f e = cc
mixed two.Equal (slot v) (slot w) z f e = cc
mixed two.AtMost (domains.truth p) y z f e = cc
mixed two.AtMost (slot v) (domains.truth q) z f e = cc
mixed two.AtMost (slot v) (slot w) z f e = cc
mixed two.Pair (domains.truth p) y z f e = cc
mixed two.Pair (slot v) (domains.truth q) z f e = cc
mixed two.Pair (slot v) (slot w) z f e = cc
mixed (two.Arithmetic o) (domains.truth p) y z f e = cc
mixed (two.Arithmetic o) (slot v) (domains.truth q) z f e = cc
mixed (two.Arithmetic o) (slot v) (slot w) z f e = cc

module _ (bodies_known : Bodies) (order : Order) (integers_known : Integers) where
  truths_have : (rule : BinaryRule) (s t : Truths) (p q : Truth3) (z : Outcome) → has_truth s p ≡ true → has_truth t q ≡ true → of_two rule (domains.truth p) (domains.truth q) ≡ Some z → has (of_truths rule s t) z ≡ true
  truths_have (two.Connective w) s t p q z h k e = subst (λ o. has (domain.Truths (up w s t)) o ≡ true) (some_of (domains.truth (truth_by w p q)) z e) (connective_has w s t p q h k)
  truths_have two.Equal s t p q z h k e = cc
  truths_have two.AtMost s t p q z h k e = cc
  truths_have two.Pair s t p q z h k e = cc
  truths_have (two.Arithmetic o) s t p q z h k e = cc

  values_have : (rule : BinaryRule) (a b : Body) (u t : Bool) (e f : Option Value) (z : Outcome) → is_ranged (slot e) ≡ true → is_ranged (slot f) ≡ true → has_slot a u e ≡ true → has_slot b t f ≡ true
      → of_two rule (slot e) (slot f) ≡ Some z → has (of_values rule (u || t) a b) z ≡ true
  values_have two.Equal a b u t e f z r s h k i = subst (λ o. has (domain.Truths (up_equal (u || t) a b)) o ≡ true) (some_of (domains.truth (tested (with_two (test_by op.Equal) e f))) z i) (equal_has bodies_known order a b u t e f h k)
  values_have two.AtMost a b u t e f z r s h k i = subst (λ o. has (domain.Truths (up_order (u || t) a b)) o ≡ true) (some_of (domains.truth (tested (with_two (test_by op.AtMost) e f))) z i) (order_has bodies_known a b u t e f h k)
  values_have two.Pair a b u t e f z r s h k i = subst (λ o. has (domain.Values (bodies.pairs a b) (u || t)) o ≡ true) (some_of (slot (with_two (value_by op.MapsTo) e f)) z i) (pair_has bodies_known a b u t e f h k)
  values_have (two.Arithmetic o) a b u t e f z r s h k i = subst (λ x. has (up_integers o (u || t) a b) x ≡ true) (some_of (slot (with_two (with_ints (integers.value_by o)) e f)) z i) (arithmetic_has bodies_known integers_known o a b u t e f r s h k)
  values_have (two.Connective w) a b u t e f z r s h k i = cc

  pub up_two_has : (rule : BinaryRule) (a b : Domain) (x y z : Outcome) → is_ranged x ≡ true → is_ranged y ≡ true → has a x ≡ true → has b y ≡ true → of_two rule x y ≡ Some z → has (up_two rule a b) z ≡ true
  up_two_has rule (domain.Truths s) (domain.Truths t) (domains.truth p) (domains.truth q) z i j h k e = truths_have rule s t p q z h k e
  up_two_has rule (domain.Values a u) (domain.Values b t) (slot v) (slot w) z i j h k e = values_have rule a b u t v w z i j h k e
  up_two_has rule a b (domains.truth p) (slot w) z i j h k e = mixed rule (domains.truth p) (slot w) z refl e
  up_two_has rule a b (slot v) (domains.truth q) z i j h k e = mixed rule (slot v) (domains.truth q) z refl e
  up_two_has rule (domain.Values a u) b (domains.truth p) (domains.truth q) z i j h k e = cc
  up_two_has rule (domain.Truths s) (domain.Values b t) (domains.truth p) (domains.truth q) z i j h k e = cc
  up_two_has rule (domain.Truths s) b (slot v) (slot w) z i j h k e = cc
  up_two_has rule (domain.Values a u) (domain.Truths t) (slot v) (slot w) z i j h k e = cc
