-- The test of two domains part by part tells whether they are equal.
use Rattle.std.proofs.Common.{◌≡◌, ◌∙◌, ◌↔◌, Bool, true, false, IsTrue, List, [], ◌∷◌, refl, sym, ap, subst, rules, arith, ◌&&◌, ℤ}
use Rattle.std.specs.Cmp.{first_so, second_so}
use Rattle.std.specs.Ordering.{int_eq, is_eq}
use Rattle.std.specs.declared.cmp.Ordering.{Ordering}
use Rattle.std.specs.declared.cmp.Ordering.TheVariants.{Less, Equal, Greater}
use Rattle.std.proofs.lemmas.Int.{ints}
use Rattle.eb_value.specs.declared.value.Value.{Value}
use Rattle.eb_value.specs.Values.{compare}
use Rattle.eb_value.specs.Comprehensions.{same as same_value}
use Rattle.int_dom.specs.declared.interval.Interval.{Interval}
use Rattle.occ_domains.specs.declared.body.Body.{Body, Body-F, out-Body, the_lemmas}
use Rattle.occ_domains.specs.declared.body.Body.TheOpen as body
use Rattle.occ_domains.specs.declared.body.Body.TheVariants as of
use Rattle.occ_domains.specs.declared.domain.Truths.{Truths}
use Rattle.occ_domains.specs.declared.domain.Domain.{Domain}
use Rattle.occ_domains.specs.declared.domain.Domain.TheVariants as domain
use Rattle.domain_changes.specs.steps.SameDomains.{same_bits, same_intervals, same_lists, same_step, same_bodies, same_truths, same}
use Rattle.domain_changes.proofs.BodyInduction.{ind_body, out-empty, out-integers, out-members, out-pairs, out-sets, by_top}

-- the order tells values apart
abbrev pub Exact : Type 0
Exact = (v w : Value) → compare v w ≡ Equal → v ≡ w

abbrev pub Reflexive : Type 0
Reflexive = (v : Value) → compare v v ≡ Equal

so_equal : (o : Ordering) → is_eq o ≡ true → o ≡ Equal
so_equal Equal h = refl
so_equal Less h = cc
so_equal Greater h = cc

-- ---- what passes is equal

bits_so : (p q : Bool) → same_bits p q ≡ true → p ≡ q
bits_so true true h = refl
bits_so true false h = cc
bits_so false true h = cc
bits_so false false h = refl

number_so : (m n : ℤ) → int_eq m n ≡ true → m ≡ n
number_so m n h = grind (arith, ints)

abbrev interval : ℤ → ℤ → Interval
interval lo hi = record { lo = lo; hi = hi }

abbrev truths : Bool → Bool → Bool → Truths
truths p q r = record { can_be_true = p; can_be_false = q; can_be_undefined = r }

intervals_so : (c d : Interval) → same_intervals c d ≡ true → c ≡ d
intervals_so c d h =
    let low : c.lo ≡ d.lo = number_so c.lo d.lo (first_so (int_eq c.lo d.lo) (int_eq c.hi d.hi) h) in
    let high : c.hi ≡ d.hi = number_so c.hi d.hi (second_so (int_eq c.lo d.lo) (int_eq c.hi d.hi) h) in
    ap (λ x. interval x c.hi) low ∙ ap (interval d.lo) high

truths_so : (s t : Truths) → same_truths s t ≡ true → s ≡ t
truths_so s t h =
    let p = same_bits s.can_be_true t.can_be_true in
    let q = same_bits s.can_be_false t.can_be_false in
    let r = same_bits s.can_be_undefined t.can_be_undefined in
    let rest : (q && r) ≡ true = second_so p (q && r) h in
    let one : s.can_be_true ≡ t.can_be_true = bits_so s.can_be_true t.can_be_true (first_so p (q && r) h) in
    let two : s.can_be_false ≡ t.can_be_false = bits_so s.can_be_false t.can_be_false (first_so q r rest) in
    let three : s.can_be_undefined ≡ t.can_be_undefined = bits_so s.can_be_undefined t.can_be_undefined (second_so q r rest) in
    ap (λ x. truths x s.can_be_false s.can_be_undefined) one ∙ ap (λ x. truths t.can_be_true x s.can_be_undefined) two ∙ ap (truths t.can_be_true t.can_be_false) three

module _ (exact : Exact) where
  lists_so : (xs ys : List Value) → same_lists xs ys ≡ true → xs ≡ ys
  lists_so [] [] h = refl
  lists_so [] (y ∷ ys) h = cc
  lists_so (x ∷ xs) [] h = cc
  lists_so (x ∷ xs) (y ∷ ys) h =
      let front : x ≡ y = exact x y (so_equal (compare x y) (first_so (same_value x y) (same_lists xs ys) h)) in
      let rest : xs ≡ ys = lists_so xs ys (second_so (same_value x y) (same_lists xs ys) h) in
      cc

-- ---- bodies, at the kinds of the first

same-empty : (b : Body) → same_bodies of.Empty b ≡ same_step body.Empty (out-Body b)
same-empty b = search (rules, the_lemmas)

same-integers : (c : Interval) (b : Body) → same_bodies (of.Integers c) b ≡ same_step (body.Integers c) (out-Body b)
same-integers c b = search (rules, the_lemmas)

same-members : (xs : List Value) (b : Body) → same_bodies (of.Members xs) b ≡ same_step (body.Members xs) (out-Body b)
same-members xs b = search (rules, the_lemmas)

same-pairs : (a c b : Body) → same_bodies (of.Pairs a c) b ≡ same_step (body.Pairs (same_bodies a) (same_bodies c)) (out-Body b)
same-pairs a c b = search (rules, the_lemmas)

same-sets : (b : Body) → same_bodies of.AllSets b ≡ same_step body.AllSets (out-Body b)
same-sets b = search (rules, the_lemmas)

abbrev Tells : Body → Type 0
Tells a = (b : Body) → same_bodies a b ≡ true → a ≡ b

module _ (b : Body) where
  empty_by : (z : Body-F Body) → out-Body b ≡ z → same_step body.Empty z ≡ true → of.Empty ≡ b
  empty_by body.Empty e h = by_top of.Empty b (out-empty ∙ sym e)
  empty_by _ e h = cc

  integers_by : (c : Interval) (z : Body-F Body) → out-Body b ≡ z → same_step (body.Integers c) z ≡ true → of.Integers c ≡ b
  integers_by c (body.Integers d) e h = by_top (of.Integers c) b (out-integers c ∙ ap body.Integers (intervals_so c d h) ∙ sym e)
  integers_by c _ e h = cc

  members_by : Exact → (xs : List Value) (z : Body-F Body) → out-Body b ≡ z → same_step (body.Members xs) z ≡ true → of.Members xs ≡ b
  members_by exact xs (body.Members ys) e h = by_top (of.Members xs) b (out-members xs ∙ ap body.Members (lists_so exact xs ys h) ∙ sym e)
  members_by exact xs _ e h = cc

  pairs_by : (a c : Body) → Tells a → Tells c → (z : Body-F Body) → out-Body b ≡ z → same_step (body.Pairs (same_bodies a) (same_bodies c)) z ≡ true → of.Pairs a c ≡ b
  pairs_by a c p q (body.Pairs x y) e h =
      let first : a ≡ x = p x (first_so (same_bodies a x) (same_bodies c y) h) in
      let second : c ≡ y = q y (second_so (same_bodies a x) (same_bodies c y) h) in
      by_top (of.Pairs a c) b (out-pairs a c ∙ ap (λ z. body.Pairs z c) first ∙ ap (body.Pairs x) second ∙ sym e)
  pairs_by a c p q _ e h = cc

  sets_by : (z : Body-F Body) → out-Body b ≡ z → same_step body.AllSets z ≡ true → of.AllSets ≡ b
  sets_by body.AllSets e h = by_top of.AllSets b (out-sets ∙ sym e)
  sets_by _ e h = cc

bodies_so : Exact → (a : Body) → Tells a
bodies_so exact = ind_body Tells (record {
  none = λ b h. empty_by b (out-Body b) refl (sym (same-empty b) ∙ h);
  integers = λ c b h. integers_by b c (out-Body b) refl (sym (same-integers c b) ∙ h);
  members = λ xs b h. members_by b exact xs (out-Body b) refl (sym (same-members xs b) ∙ h);
  pairs = λ a c p q b h. pairs_by b a c p q (out-Body b) refl (sym (same-pairs a c b) ∙ h);
  sets = λ b h. sets_by b (out-Body b) refl (sym (same-sets b) ∙ h);
})

same_so : Exact → (a b : Domain) → same a b ≡ true → a ≡ b
same_so exact (domain.Truths s) (domain.Truths t) h = ap domain.Truths (truths_so s t h)
same_so exact (domain.Values a u) (domain.Values b w) h =
    let undefined : u ≡ w = bits_so u w (first_so (same_bits u w) (same_bodies a b) h) in
    let body : a ≡ b = bodies_so exact a b (second_so (same_bits u w) (same_bodies a b) h) in
    cc
same_so exact (domain.Truths s) (domain.Values b w) h = cc
same_so exact (domain.Values a u) (domain.Truths t) h = cc

-- ---- what is equal passes

so_bits : (p : Bool) → same_bits p p ≡ true
so_bits true = refl
so_bits false = refl

so_number : (n : ℤ) → int_eq n n ≡ true
so_number n = grind (arith, ints)

so_intervals : (c : Interval) → same_intervals c c ≡ true
so_intervals c = rw (so_number c.lo, so_number c.hi) refl

so_lists : Reflexive → (xs : List Value) → same_lists xs xs ≡ true
so_lists reflexive [] = refl
so_lists reflexive (x ∷ xs) = rw (reflexive x, so_lists reflexive xs) refl

so_bodies : Reflexive → (a : Body) → same_bodies a a ≡ true
so_bodies reflexive = ind_body (λ a. same_bodies a a ≡ true) (record {
  none = same-empty of.Empty ∙ ap (same_step body.Empty) out-empty;
  integers = λ c. same-integers c (of.Integers c) ∙ ap (same_step (body.Integers c)) (out-integers c) ∙ so_intervals c;
  members = λ xs. same-members xs (of.Members xs) ∙ ap (same_step (body.Members xs)) (out-members xs) ∙ so_lists reflexive xs;
  pairs = λ a c p q. same-pairs a c (of.Pairs a c) ∙ ap (same_step (body.Pairs (same_bodies a) (same_bodies c))) (out-pairs a c) ∙ rw (p, q) refl;
  sets = same-sets of.AllSets ∙ ap (same_step body.AllSets) out-sets;
})

so_same : Reflexive → (a : Domain) → same a a ≡ true
so_same reflexive (domain.Truths t) = rw (so_bits t.can_be_true, so_bits t.can_be_false, so_bits t.can_be_undefined) refl
so_same reflexive (domain.Values b u) = rw (so_bits u, so_bodies reflexive b) refl

pub same_tells : Exact → Reflexive → (a b : Domain) (r : Bool) → r ≡ same a b → IsTrue r ↔ (a ≡ b)
same_tells exact reflexive a b r e = (λ h. same_so exact a b (sym e ∙ h), λ h. e ∙ subst (λ d. same a d ≡ true) h (so_same reflexive a))
