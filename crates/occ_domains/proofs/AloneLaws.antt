-- A body that is single has no other value, in normal form or not.
use Rattle.std.proofs.Common.{◌≡◌, ◌∙◌, true, List, [], ◌∷◌, Option, Some, None, refl, sym, ap}
use Rattle.std.specs.Cmp.{second_so}
use Rattle.std.specs.Ordering.{int_eq}
use Rattle.eb_value.specs.declared.value.Value.{Value}
use Rattle.eb_value.specs.Values.{int, pair}
use Rattle.eb_value.specs.Comprehensions.{has as is_among, same}
use Rattle.int_dom.specs.declared.interval.Interval.{Interval}
use Rattle.occ_domains.specs.declared.body.Body.{Body}
use Rattle.occ_domains.specs.declared.body.Body.TheVariants as of
use Rattle.occ_domains.specs.Bodies.{is_plain, has, single, single_member, single_pair}
use Rattle.occ_domains.proofs.BodyLaws.{ind_body, has-integers, has-members, has-pairs}
use Rattle.occ_domains.proofs.MeetLaws.{Exact, same_is}
use Rattle.occ_domains.proofs.SingleLaws.{single-empty, single-integers, single-members, single-pairs, single-sets, single_there, one_number, integer_of, pair_of, some_of, or_false}

abbrev Alone : Body → Type 0
Alone b = (v : Value) → single b ≡ Some v → (w : Value) → has b w ≡ true → w ≡ v

alone_integers : (d : Interval) → Alone (of.Integers d)
alone_integers d v h w k =
    let s = single_there d v (int_eq d.lo d.hi) refl (sym (single-integers d) ∙ h) in
    let i = integer_of d w (sym (has-integers d w) ∙ k) in
    i.is ∙ ap int (one_number d i.number s.0 i.within) ∙ s.1

alone_members : Exact → (xs : List Value) (v : Value) → single_member xs ≡ Some v → (w : Value) → is_among xs w ≡ true → w ≡ v
alone_members exact [] v h w k = cc
alone_members exact (x ∷ []) v h w k = same_is exact w x (or_false (same w x) k) ∙ some_of x v h
alone_members exact (x ∷ y ∷ ys) v h w k = cc

module _ (a b : Body) (p : Alone a) (q : Alone b) where
  alone_pair : (s t : Option Value) → single a ≡ s → single b ≡ t → (v : Value) → single_pair s t ≡ Some v → (w : Value) → has (of.Pairs a b) w ≡ true → w ≡ v
  alone_pair (Some x) (Some y) e f v h w k =
      let i = pair_of (has a) (has b) w (sym (has-pairs a b w) ∙ k) in
      i.is ∙ ap (λ z. pair z i.second) (p x e i.first i.first_in) ∙ ap (pair x) (q y f i.second i.second_in) ∙ some_of (pair x y) v h
  alone_pair (Some x) None e f v h w k = cc
  alone_pair None t e f v h w k = cc

pub only_value : Exact → (b : Body) → Alone b
only_value exact = ind_body Alone (record {
  none = λ v h w k. let n : None ≡ Some v = sym single-empty ∙ h in cc;
  integers = alone_integers;
  members = λ xs v h w k. alone_members exact xs v (sym (single-members xs) ∙ h) w (second_so (is_plain w) (is_among xs w) (sym (has-members xs w) ∙ k));
  pairs = λ a b p q v h w k. alone_pair a b p q (single a) (single b) refl refl v (sym (single-pairs a b) ∙ h) w k;
  sets = λ v h w k. let n : None ≡ Some v = sym single-sets ∙ h in cc;
})
