-- Bodies in normal form have a value unless they are empty, and two where they are not single either.
use Rattle.std.proofs.Common.{◌≡◌, ◌∙◌, ◌≤◌, ◌*◌, Bool, true, false, not, ◌&&◌, ◌||◌, List, [], ◌∷◌, Option, Some, None, length, refl, sym, arith, rules}
use Rattle.std.specs.Cmp.{first_so, second_so}
use Rattle.std.proofs.Math.Nat.{mul-le-mul}
use Rattle.eb_value.specs.declared.value.Value.{Value}
use Rattle.int_dom.specs.declared.interval.Interval.{Interval}
use Rattle.int_dom.specs.Intervals as interval
use Rattle.int_dom.specs.Intervals.{size}
use Rattle.occ_domains.specs.declared.body.Body.{Body, the_lemmas}
use Rattle.occ_domains.specs.declared.body.Body.TheVariants as of
use Rattle.occ_domains.specs.Bodies.{is_empty, is_list, is_filled, is_normal, single, single_integer, single_member, single_pair}
use Rattle.domain_counts.specs.Counts.{count, is_setless}
use Rattle.domain_counts.proofs.BodyCounts.{ind_body, count-integers, count-members, count-pairs, count-sets, setless-pairs, setless-sets}
use Rattle.domain_counts.proofs.IntervalCounts.{size_filled, size_several}

-- ---- at the constructors

filled-empty : is_filled of.Empty ≡ false
filled-empty = search (rules, the_lemmas)

filled-integers : (d : Interval) → is_filled (of.Integers d) ≡ not (interval.is_empty d)
filled-integers d = search (rules, the_lemmas)

filled-members : (xs : List Value) → is_filled (of.Members xs) ≡ is_list xs
filled-members xs = search (rules, the_lemmas)

filled-pairs : (a b : Body) → is_filled (of.Pairs a b) ≡ (is_filled a && is_filled b)
filled-pairs a b = search (rules, the_lemmas)

single-integers : (d : Interval) → single (of.Integers d) ≡ single_integer d
single-integers d = search (rules, the_lemmas)

single-members : (xs : List Value) → single (of.Members xs) ≡ single_member xs
single-members xs = search (rules, the_lemmas)

single-pairs : (a b : Body) → single (of.Pairs a b) ≡ single_pair (single a) (single b)
single-pairs a b = search (rules, the_lemmas)

-- ---- a value

not_so : (b : Bool) → not b ≡ true → b ≡ false
not_so true h = cc
not_so false h = refl

members_some : (xs : List Value) → is_list xs ≡ true → 1 ≤ length xs
members_some [] h = cc
members_some (x ∷ xs) h = omega arith

pairs_some : (a b : Body) → 1 ≤ count a → 1 ≤ count b → 1 ≤ count a * count b
pairs_some a b h k = let both : 1 * 1 ≤ count a * count b = mul-le-mul h k in both

filled_some : (b : Body) → is_filled b ≡ true → 1 ≤ count b
filled_some = ind_body (λ b. is_filled b ≡ true → 1 ≤ count b) (record {
  none = λ h. let k : false ≡ true = sym filled-empty ∙ h in cc;
  integers = λ d h. rw (count-integers d) (size_filled d (not_so (interval.is_empty d) (sym (filled-integers d) ∙ h)));
  members = λ xs h. rw (count-members xs) (members_some xs (sym (filled-members xs) ∙ h));
  pairs = λ a b p q h.
      let both : (is_filled a && is_filled b) ≡ true = sym (filled-pairs a b) ∙ h in
      rw (count-pairs a b) (pairs_some a b (p (first_so (is_filled a) (is_filled b) both)) (q (second_so (is_filled a) (is_filled b) both)));
  sets = λ h. rw count-sets (omega arith);
})

later : (b c : Bool) → b ≡ false → (b || c) ≡ true → c ≡ true
later false c e h = h
later true c e h = cc

pub normal_some : (b : Body) → is_normal b ≡ true → is_empty b ≡ false → 1 ≤ count b
normal_some b n e = filled_some b (later (is_empty b) (is_filled b) e n)

-- ---- two values

abbrev Several : Body → Type 0
Several b = is_filled b ≡ true → is_setless b ≡ true → single b ≡ None → 2 ≤ count b

integers_several : (d : Interval) → interval.is_empty d ≡ false → single_integer d ≡ None → 2 ≤ size d
integers_several d e h = at (interval.is_single d) refl where
  at : (b : Bool) → interval.is_single d ≡ b → 2 ≤ size d
  at true k = let c : single_integer d ≡ None = h in let s = (rw k at c) in cc
  at false k = size_several d e k

members_several : (xs : List Value) → is_list xs ≡ true → single_member xs ≡ None → 2 ≤ length xs
members_several [] h k = cc
members_several (x ∷ []) h k = cc
members_several (x ∷ y ∷ ys) h k = omega arith

-- pairs of which the one part has two values and the other one at least
module _ (a b : Body) (some_first : 1 ≤ count a) (some_second : 1 ≤ count b) where
  first_several : 2 ≤ count a → 2 ≤ count a * count b
  first_several h = let both : 2 * 1 ≤ count a * count b = mul-le-mul h some_second in both

  second_several : 2 ≤ count b → 2 ≤ count a * count b
  second_several h = let both : 1 * 2 ≤ count a * count b = mul-le-mul some_first h in both

  pairs_several : (s t : Option Value) → single a ≡ s → single b ≡ t → (single a ≡ None → 2 ≤ count a) → (single b ≡ None → 2 ≤ count b)
      → single_pair s t ≡ None → 2 ≤ count a * count b
  pairs_several None t e f p q h = first_several (p e)
  pairs_several (Some x) None e f p q h = second_several (q f)
  pairs_several (Some x) (Some y) e f p q h = cc

filled_several : (b : Body) → Several b
filled_several = ind_body Several (record {
  none = λ f s h. let k : false ≡ true = sym filled-empty ∙ f in cc;
  integers = λ d f s h. rw (count-integers d) (integers_several d (not_so (interval.is_empty d) (sym (filled-integers d) ∙ f)) (sym (single-integers d) ∙ h));
  members = λ xs f s h. rw (count-members xs) (members_several xs (sym (filled-members xs) ∙ f) (sym (single-members xs) ∙ h));
  pairs = λ a b p q f s h.
      let filled : (is_filled a && is_filled b) ≡ true = sym (filled-pairs a b) ∙ f in
      let setless : (is_setless a && is_setless b) ≡ true = sym (setless-pairs a b) ∙ s in
      let fa = first_so (is_filled a) (is_filled b) filled in
      let fb = second_so (is_filled a) (is_filled b) filled in
      rw (count-pairs a b) (pairs_several a b (filled_some a fa) (filled_some b fb) (single a) (single b) refl refl
      (p fa (first_so (is_setless a) (is_setless b) setless)) (q fb (second_so (is_setless a) (is_setless b) setless)) (sym (single-pairs a b) ∙ h));
  sets = λ f s h. let k : false ≡ true = sym setless-sets ∙ s in cc;
})

pub normal_several : (b : Body) → is_normal b ≡ true → is_empty b ≡ false → is_setless b ≡ true → single b ≡ None → 2 ≤ count b
normal_several b n e s h = filled_several b (later (is_empty b) (is_filled b) e n) s h
