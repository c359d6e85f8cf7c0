-- What the operators on relations keep and take.
use Rattle.std.proofs.Common.{◌≡◌, ◌∙◌, ◌↔◌, ⊎_elim, inl, inr, ◌⊎◌, Bool, true, false, List, filter, Option, Some, None, refl, sym, ap, subst}
use Rattle.std.specs.List.{Contains, filter_map}
use Rattle.std.specs.Ordering.{ordering_then}
use Rattle.std.specs.declared.cmp.Ordering.{Ordering}
use Rattle.std.specs.declared.cmp.Ordering.TheVariants.{Less, Equal, Greater}
use Rattle.eb_value.specs.declared.value.Value.{Value}
use Rattle.eb_value.specs.Values.{layer, pair, compare, is_ascending}
use Rattle.eb_value.specs.Sets.{IsSetOf, InUnion}
use Rattle.eb_value.specs.Relations
use Rattle.eb_value.specs.steps.Merges.{first_of, second_of, kept, key_of}
use Rattle.eb_value.specs.steps.Joins
use Rattle.eb_value.specs.Comprehensions.{has}
use Rattle.eb_value.specs.declared.merges.Key.TheVariants.{First}
use Rattle.eb_value.specs.declared.relations.Part.TheVariants as part
use Rattle.eb_value.proofs.OrderLaws.{exact, compare-pair}
use Rattle.eb_value.proofs.ComprehensionLaws.{has_contains, contains_has}
use Rattle.eb_value.proofs.Induction.{as_pair}
use Rattle.eb_value.proofs.Ascending.{Below, rises, rises_filter, contains_filter}
use Rattle.eb_value.proofs.MergeLaws.{Meets, Upto, kept_set, same_set, set_from, not_true, not_false}
use Rattle.eb_value.proofs.PairLaws.{first_of-pair, second_of-pair, swap-pair, first_of-other, with_first, with_second, with_swap, same_pair, contains_filter_map, filter_map_contains}

-- ---- by the first

pub then_first : (a b c d : Value) (o : Ordering) → compare a c ≡ o → ordering_then o (compare b d) ≡ Less → (a ≡ c) ⊎ Below a c
then_first a b c d Less e h = inr e
then_first a b c d Equal e h = inl (exact a c e)
then_first a b c d Greater e h = cc

no_second : (o : Option Value) → Upto o None
no_second None = tt
no_second (Some k) = tt

-- the firsts of ascending pairs do not fall
firsts_up : (v w : Value) → Below v w → Upto (first_of v) (first_of w)
firsts_up v w = as_pair (λ v. Below v w → Upto (first_of v) (first_of w))
    (λ a b. as_pair (λ w. Below (pair a b) w → Upto (first_of (pair a b)) (first_of w))
    (λ c d h. rw (first_of-pair a b, first_of-pair c d) (then_first a b c d (compare a c) refl (sym (compare-pair a b c d) ∙ h)))
    (λ w k h. rw (first_of-other w k) (no_second (first_of (pair a b)))) w)
    (λ v k h. rw (first_of-other v k) tt) v

first_set : (keep : Bool) (r s : List Value) → is_ascending r ≡ true → is_ascending s ≡ true → IsSetOf (λ v. Contains r v × Meets keep (first_of v) s) (kept (key_of First) keep r s)
first_set keep r s h k = kept_set first_of keep firsts_up r s h k

met_first : (keep : Bool) (o : Option Value) (s : List Value) → Meets keep o s → (x : Value) × (o ≡ Some x) × Meets keep (Some x) s
met_first keep None s m = absurd m
met_first keep (Some x) s m = (x, refl, m)

pub dom_keep_set : (s r : List Value) → is_ascending s ≡ true → is_ascending r ≡ true → IsSetOf (Relations.InDomKeep s r) (kept (key_of First) true r s)
dom_keep_set s r k h = same_set (λ v. Contains r v × Meets true (first_of v) s) (Relations.InDomKeep s r) (kept (key_of First) true r s)
    (λ v. (
      λ m. let f = met_first true (first_of v) s m.1 in let p = with_first v f.0 f.1 in (f.0, p.0, p.1, f.2, subst (Contains r) p.1 m.0),
      λ m. (subst (Contains r) (sym m.2) m.4, subst (λ o. Meets true o s) (sym (ap first_of m.2 ∙ first_of-pair m.0 m.1)) m.3),
    ))
    (first_set true r s h k)

pub dom_drop_set : (s r : List Value) → is_ascending s ≡ true → is_ascending r ≡ true → IsSetOf (Relations.InDomDrop s r) (kept (key_of First) false r s)
dom_drop_set s r k h = same_set (λ v. Contains r v × Meets false (first_of v) s) (Relations.InDomDrop s r) (kept (key_of First) false r s)
    (λ v. (
      λ m. let f = met_first false (first_of v) s m.1 in let p = with_first v f.0 f.1 in (f.0, p.0, p.1, f.2, subst (Contains r) p.1 m.0),
      λ m. (subst (Contains r) (sym m.2) m.4, subst (λ o. Meets false o s) (sym (ap first_of m.2 ∙ first_of-pair m.0 m.1)) m.3),
    ))
    (first_set false r s h k)

-- ---- by the second

tests_meet : (keep : Bool) (s : List Value) (o : Option Value) → (Joins.tests keep s o ≡ true) ↔ Meets keep o s
tests_meet true s None = (λ e. cc, λ m. absurd m)
tests_meet false s None = (λ e. cc, λ m. absurd m)
tests_meet true s (Some y) = (has_contains s y, contains_has s y)
tests_meet false s (Some y) = (λ e m. not_false (has s y) e (contains_has s y m), λ n. not_true (has s y) (λ e. n (has_contains s y e)))

second_set : (keep : Bool) (r s : List Value) → is_ascending r ≡ true → IsSetOf (λ v. Contains r v × Meets keep (second_of v) s) (filter (λ v. Joins.tests keep s (second_of v)) r)
second_set keep r s h = set_from (λ v. Contains r v × Meets keep (second_of v) s) (filter (λ v. Joins.tests keep s (second_of v)) r)
    (rises_filter Below (λ v. Joins.tests keep s (second_of v)) r (rises r h))
    (λ v. (
      λ m. let f = (contains_filter (λ v. Joins.tests keep s (second_of v)) r v).0 m in (f.0, (tests_meet keep s (second_of v)).0 f.1),
      λ m. (contains_filter (λ v. Joins.tests keep s (second_of v)) r v).1 (m.0, (tests_meet keep s (second_of v)).1 m.1),
    ))

pub ran_keep_set : (r s : List Value) → is_ascending r ≡ true → IsSetOf (Relations.InRanKeep r s) (filter (λ v. Joins.tests true s (second_of v)) r)
ran_keep_set r s h = same_set (λ v. Contains r v × Meets true (second_of v) s) (Relations.InRanKeep r s) (filter (λ v. Joins.tests true s (second_of v)) r)
    (λ v. (
      λ m. let f = met_first true (second_of v) s m.1 in let p = with_second v f.0 f.1 in (p.0, f.0, p.1, subst (Contains r) p.1 m.0, f.2),
      λ m. (subst (Contains r) (sym m.2) m.3, subst (λ o. Meets true o s) (sym (ap second_of m.2 ∙ second_of-pair m.0 m.1)) m.4),
    ))
    (second_set true r s h)

pub ran_drop_set : (r s : List Value) → is_ascending r ≡ true → IsSetOf (Relations.InRanDrop r s) (filter (λ v. Joins.tests false s (second_of v)) r)
ran_drop_set r s h = same_set (λ v. Contains r v × Meets false (second_of v) s) (Relations.InRanDrop r s) (filter (λ v. Joins.tests false s (second_of v)) r)
    (λ v. (
      λ m. let f = met_first false (second_of v) s m.1 in let p = with_second v f.0 f.1 in (p.0, f.0, p.1, subst (Contains r) p.1 m.0, f.2),
      λ m. (subst (Contains r) (sym m.2) m.3, subst (λ o. Meets false o s) (sym (ap second_of m.2 ∙ second_of-pair m.0 m.1)) m.4),
    ))
    (second_set false r s h)

-- ---- parts

pub domain_set : (r all : List Value) → IsSetOf (Contains (filter_map (Joins.part_of part.First) r)) all → IsSetOf (Relations.InDomain r) all
domain_set r all = same_set (Contains (filter_map first_of r)) (Relations.InDomain r) all
    (λ x. (
      λ m. let f = contains_filter_map first_of r x m in let p = with_first f.0 x f.2 in (p.0, subst (Contains r) p.1 f.1),
      λ m. filter_map_contains first_of r (pair x m.0) x m.1 (first_of-pair x m.0),
    ))

pub range_set : (r all : List Value) → IsSetOf (Contains (filter_map (Joins.part_of part.Second) r)) all → IsSetOf (Relations.InRange r) all
range_set r all = same_set (Contains (filter_map second_of r)) (Relations.InRange r) all
    (λ y. (
      λ m. let f = contains_filter_map second_of r y m in let p = with_second f.0 y f.2 in (p.0, subst (Contains r) p.1 f.1),
      λ m. filter_map_contains second_of r (pair m.0 y) y m.1 (second_of-pair m.0 y),
    ))

pub inverse_set : (r all : List Value) → IsSetOf (Contains (filter_map (Joins.part_of part.Swapped) r)) all → IsSetOf (Relations.InInverse r) all
inverse_set r all = same_set (Contains (filter_map (λ v. Joins.swap_in (layer v)) r)) (Relations.InInverse r) all
    (λ v. (
      λ m. let f = contains_filter_map (λ v. Joins.swap_in (layer v)) r v m in let p = with_swap f.0 v f.2 in (p.0, p.1, p.3, subst (Contains r) p.2 f.1),
      λ m. filter_map_contains (λ v. Joins.swap_in (layer v)) r (pair m.0 m.1) v m.3 (swap-pair m.0 m.1 ∙ ap Some (sym m.2)),
    ))

-- ---- from other operators

pub image_set : (r s pairs all : List Value) → IsSetOf (Relations.InDomKeep s r) pairs → IsSetOf (Relations.InRange pairs) all → IsSetOf (Relations.InImage r s) all
image_set r s pairs all h = same_set (Relations.InRange pairs) (Relations.InImage r s) all
    (λ y. (
      λ m. let k = (h.members (pair m.0 y)).0 m.1 in let e = same_pair m.0 y k.0 k.1 k.2 in (k.0, k.3, subst (λ z. Relations.Relates r k.0 z) (sym e.1) k.4),
      λ m. (m.0, (h.members (pair m.0 y)).1 (m.0, y, refl, m.1, m.2)),
    ))

pub overlay_set : (f g firsts others all : List Value) → IsSetOf (Relations.InDomain g) firsts → IsSetOf (Relations.InDomDrop firsts f) others → IsSetOf (InUnion others g) all → IsSetOf (Relations.InOverlay f g) all
overlay_set f g firsts others all d o = same_set (InUnion others g) (Relations.InOverlay f g) all
    (λ v. (
      λ m. ⊎_elim (λ n. let k = (o.members v).0 n in inr (k.0, k.1, k.2, k.4, λ i. k.3 ((d.members k.0).1 i))) inl m,
      λ m. ⊎_elim inr (λ k. inl ((o.members v).1 (k.0, k.1, k.2, (λ i. k.4 ((d.members k.0).0 i)), k.3))) m,
    ))
