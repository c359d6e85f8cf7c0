-- A body without a value has its other values, and is in normal form where the body is.
use Rattle.std.proofs.Common.{◌≡◌, ◌∙◌, ℤ, int_le, Bool, true, false, not, ◌&&◌, List, filter, refl, sym, ap, arith}
use Rattle.std.specs.Ordering.{int_eq}
use Rattle.std.proofs.lemmas.Int.{ints}
use Rattle.eb_value.specs.declared.value.Value.{Value}
use Rattle.eb_value.specs.declared.value.Form.TheOpen as val
use Rattle.eb_value.specs.Values.{Layer, layer, int, truth, atom, pair, set}
use Rattle.eb_value.specs.Comprehensions.{has as is_among, same}
use Rattle.int_dom.specs.declared.interval.Interval.{Interval}
use Rattle.occ_domains.specs.declared.body.Body.{Body}
use Rattle.occ_domains.specs.declared.body.Body.TheOpen as body
use Rattle.occ_domains.specs.declared.body.Body.TheVariants as of
use Rattle.occ_domains.specs.Bodies.{is_plain_layer, has_step, has, is_normal, members, but_for, without_number, without_integer, is_other, without_layer, without}
use Rattle.occ_domains.proofs.BodyLaws.{ind_body, has-integers, has-members, out-empty, out-integers, out-members, out-pairs, out-sets, integers_have}
use Rattle.occ_domains.proofs.ListLaws.{Transitive, both_so}
use Rattle.occ_domains.proofs.MeetLaws.{Exact}
use Rattle.occ_domains.proofs.NormalLaws.{Reflexive, layer-int, layer-pair, layer-set, integers_normal, normal_members, list_listed, filter_normal}
use Rattle.occ_domains.proofs.Among.{is_same}
use Rattle.occ_domains.proofs.SingleLaws.{integer_of, layer-truth, layer-atom}
use Rattle.occ_domains.proofs.TestLaws.{alike_has}
use Rattle.occ_domains.proofs.TypeInduction.{by_kind}

-- ---- the other values

other_stays : (d : Interval) (n m : ℤ) → int_eq m n ≡ false → (int_le d.lo m && int_le m d.hi) ≡ true → (int_le (but_for n d).lo m && int_le m (but_for n d).hi) ≡ true
other_stays d n m e h = at (int_eq n d.lo) (int_eq n d.hi) refl refl where
  at : (b c : Bool) → int_eq n d.lo ≡ b → int_eq n d.hi ≡ c → (int_le (but_for n d).lo m && int_le m (but_for n d).hi) ≡ true
  at true c low high = rw low (grind (arith, ints))
  at false true low high = rw (low, high) (grind (arith, ints))
  at false false low high = rw (low, high) h

equal_is : (m n : ℤ) → int_eq m n ≡ true → m ≡ n
equal_is m n h = grind (arith, ints)

different : Reflexive → (m n : ℤ) → same (int m) (int n) ≡ false → int_eq m n ≡ false
different reflexive m n h = at (int_eq m n) refl where
  at : (b : Bool) → int_eq m n ≡ b → int_eq m n ≡ false
  at false e = e
  at true e = let k : true ≡ false = sym (is_same reflexive (int m)) ∙ ap (λ k. same (int m) (int k)) (equal_is m n e) ∙ h in cc

module _ (reflexive : Reflexive) (d : Interval) (v : Value) (h : has (of.Integers d) v ≡ true) where
  -- the integers without a value of another kind
  kept : (u : Value) → without_integer d u ≡ of.Integers d → has (without_integer d u) v ≡ true
  kept u e = ap (λ b. has b v) e ∙ h

  number_stays : (n : ℤ) → same v (int n) ≡ false → has (without_integer d (int n)) v ≡ true
  number_stays n other =
      let i = integer_of d v (sym (has-integers d v) ∙ h) in
      let away : int_eq i.number n ≡ false = different reflexive i.number n (sym (ap (λ w. same w (int n)) i.is) ∙ other) in
      ap (λ y. has (without_number d y) v) (layer-int n) ∙ integers_have (but_for n d) v
      ∙ ap (λ w. has_step (body.Integers (but_for n d)) w (layer w)) i.is
      ∙ ap (has_step (body.Integers (but_for n d)) (int i.number)) (layer-int i.number)
      ∙ other_stays d n i.number away i.within

  integer_stays : (u : Value) → same v u ≡ false → has (without_integer d u) v ≡ true
  integer_stays = by_kind (λ u. same v u ≡ false → has (without_integer d u) v ≡ true) (record {
    int = number_stays;
    truth = λ b other. kept (truth b) (ap (without_number d) (layer-truth b));
    atom = λ s k other. kept (atom s k) (ap (without_number d) (layer-atom s k));
    pair = λ a b other. kept (pair a b) (ap (without_number d) (layer-pair a b));
    set = λ xs other. kept (set xs) (ap (without_number d) (layer-set xs));
  })

member_stays : Exact → (xs : List Value) (u v : Value) → has (of.Members xs) v ≡ true → same v u ≡ false → has (members (filter (is_other u) xs)) v ≡ true
member_stays exact xs u v h other =
    alike_has exact false u xs v
    ∙ both_so (is_plain_layer (layer v) && is_among xs v) (not (same v u)) (sym (has-members xs v) ∙ h) (ap not other)

pub without_has : Exact → Reflexive → (b : Body) (u v : Value) → has b v ≡ true → same v u ≡ false → has (without b u) v ≡ true
without_has exact reflexive = ind_body (λ b. (u v : Value) → has b v ≡ true → same v u ≡ false → has (without b u) v ≡ true) (record {
  none = λ u v h other. ap (λ z. has (without_layer z u of.Empty) v) out-empty ∙ h;
  integers = λ d u v h other. ap (λ z. has (without_layer z u (of.Integers d)) v) (out-integers d) ∙ integer_stays reflexive d v h u other;
  members = λ xs u v h other. ap (λ z. has (without_layer z u (of.Members xs)) v) (out-members xs) ∙ member_stays exact xs u v h other;
  pairs = λ a b p q u v h other. ap (λ z. has (without_layer z u (of.Pairs a b)) v) (out-pairs a b) ∙ h;
  sets = λ u v h other. ap (λ z. has (without_layer z u of.AllSets) v) out-sets ∙ h;
})

-- ---- normal form

number_normal : (d : Interval) → is_normal (of.Integers d) ≡ true → (y : Layer) → is_normal (without_number d y) ≡ true
number_normal d h (val.Int n) = integers_normal (but_for n d)
number_normal d h _ = h

pub without_normal : Transitive → (b : Body) (u : Value) → is_normal b ≡ true → is_normal (without b u) ≡ true
without_normal transitive = ind_body (λ b. (u : Value) → is_normal b ≡ true → is_normal (without b u) ≡ true) (record {
  none = λ u h. ap (λ z. is_normal (without_layer z u of.Empty)) out-empty ∙ h;
  integers = λ d u h. ap (λ z. is_normal (without_layer z u (of.Integers d))) (out-integers d) ∙ number_normal d h (layer u);
  members = λ xs u h. ap (λ z. is_normal (without_layer z u (of.Members xs))) (out-members xs) ∙ filter_normal transitive (is_other u) xs (list_listed xs (normal_members xs h));
  pairs = λ a b p q u h. ap (λ z. is_normal (without_layer z u (of.Pairs a b))) (out-pairs a b) ∙ h;
  sets = λ u h. ap (λ z. is_normal (without_layer z u of.AllSets)) out-sets ∙ h;
})
