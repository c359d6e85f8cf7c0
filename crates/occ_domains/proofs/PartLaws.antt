-- The parts of a domain: what they have, their normal form, and where there are none.
use Rattle.std.proofs.Common.{◌≡◌, ◌∙◌, ◌⊎◌, inl, inr, ℤ, Bool, true, false, not, ◌&&◌, ◌||◌, List, [], ◌∷◌, Some, None, IsNone, IfSome, refl, sym, ap}
use Rattle.eb_value.specs.declared.value.Value.{Value}
use Rattle.eb_term.specs.declared.operators.Side.{Side}
use Rattle.eb_term.specs.declared.operators.Side.TheVariants as side
use Rattle.eb_operations.specs.declared.truth3.Truth3.TheVariants as is
use Rattle.int_dom.specs.declared.interval.Interval.{Interval}
use Rattle.int_dom.specs.Intervals.{at_most, above}
use Rattle.occ_domains.specs.declared.body.Body.{Body, out-Body}
use Rattle.occ_domains.specs.declared.body.Body.TheOpen as body
use Rattle.occ_domains.specs.declared.domain.Domain.{Domain}
use Rattle.occ_domains.specs.declared.domain.Domain.TheVariants as domain
use Rattle.occ_domains.specs.declared.tests.Test.{Test}
use Rattle.occ_domains.specs.declared.tests.Test.TheVariants as test
use Rattle.occ_domains.specs.Bodies as values
use Rattle.occ_domains.specs.Domains.{Outcome, truth, slot, has, is_empty, is_normal}
use Rattle.occ_domains.specs.Tests.{passes, fits, is_kept, is_alike, cut, leaf, leaf_layer, changed_in, changed_at, part, parts, AreAlike}
use Rattle.occ_domains.proofs.BodyLaws.{ind_body, has-empty, and_false, out-empty, out-integers, out-members, out-pairs, out-sets}
use Rattle.occ_domains.proofs.ListLaws.{Transitive}
use Rattle.occ_domains.proofs.MeetLaws.{Exact}
use Rattle.occ_domains.proofs.NormalLaws.{Reflexive, empty_normal, integers_normal, pairs_normal, filter_normal, filled_normal, normal_members, normal_pairs, list_listed}
use Rattle.occ_domains.proofs.DomainLaws.{empty_has_nothing, nothing_is_empty}
use Rattle.occ_domains.proofs.TestLaws.{cut_is, body_part_has}

-- ---- what a part has

kept_none : (keep : Bool) → not keep ≡ is_kept keep false
kept_none true = refl
kept_none false = refl

and_true : (b : Bool) → b ≡ (b && true)
and_true true = refl
and_true false = refl

pub part_has : Exact → (keep : Bool) (t : Test) (d : Domain) → fits d t ≡ true → (o : Outcome) → has (part keep t d) o ≡ (has d o && is_kept keep (passes t o))
part_has exact keep t (domain.Truths s) f (truth is.True) = refl
part_has exact keep t (domain.Truths s) f (truth is.False) = refl
part_has exact keep t (domain.Truths s) f (truth is.Undefined) = refl
part_has exact keep t (domain.Truths s) f (slot x) = refl
part_has exact keep (test.AtMost path n) (domain.Values b u) f (truth p) = refl
part_has exact keep (test.AtMost path n) (domain.Values b u) f (slot None) = ap (λ k. u && k) (kept_none keep)
part_has exact keep (test.AtMost path n) (domain.Values b u) f (slot (Some v)) = body_part_has exact keep (test.AtMost path n) path b f v
part_has exact keep (test.Is path w) (domain.Values b u) f (truth p) = refl
part_has exact keep (test.Is path w) (domain.Values b u) f (slot None) = ap (λ k. u && k) (kept_none keep)
part_has exact keep (test.Is path w) (domain.Values b u) f (slot (Some v)) = body_part_has exact keep (test.Is path w) path b f v
part_has exact true test.Defined (domain.Values b u) f (truth p) = refl
part_has exact true test.Defined (domain.Values b u) f (slot None) = sym (and_false u)
part_has exact true test.Defined (domain.Values b u) f (slot (Some v)) = and_true (values.has b v)
part_has exact false test.Defined (domain.Values b u) f (truth p) = refl
part_has exact false test.Defined (domain.Values b u) f (slot None) = and_true u
part_has exact false test.Defined (domain.Values b u) f (slot (Some v)) = has-empty v ∙ sym (and_false (values.has b v))
part_has exact keep test.True (domain.Values b u) f o = cc
part_has exact keep test.False (domain.Values b u) f o = cc
part_has exact keep test.Undefined (domain.Values b u) f o = cc

-- ---- normal form

abbrev Normal : (Body → Body) → Type 0
Normal f = (b : Body) → values.is_normal b ≡ true → values.is_normal (f b) ≡ true

cut_normal : (keep : Bool) (n : ℤ) (d : Interval) → values.is_normal (cut keep n d) ≡ true
cut_normal true n d = ap values.is_normal (cut_is (at_most n d)) ∙ integers_normal (at_most n d)
cut_normal false n d = ap values.is_normal (cut_is (above n d)) ∙ integers_normal (above n d)

leaf_integers : (keep : Bool) (t : Test) (d : Interval) → values.is_normal (leaf_layer keep t (body.Integers d)) ≡ true
leaf_integers keep (test.AtMost path n) d = cut_normal keep n d
leaf_integers keep _ d = empty_normal

leaf_members : Transitive → (keep : Bool) (t : Test) (xs : List Value) → values.is_list xs ≡ true → values.is_normal (leaf_layer keep t (body.Members xs)) ≡ true
leaf_members transitive keep (test.Is path u) xs h = filter_normal transitive (is_alike keep u) xs (list_listed xs h)
leaf_members transitive keep _ xs h = empty_normal

leaf_empty : (keep : Bool) (t : Test) → values.is_normal (leaf_layer keep t body.Empty) ≡ true
leaf_empty keep (test.AtMost path n) = empty_normal
leaf_empty keep (test.Is path u) = empty_normal
leaf_empty keep _ = empty_normal

leaf_pairs : (keep : Bool) (t : Test) (a b : Body) → values.is_normal (leaf_layer keep t (body.Pairs a b)) ≡ true
leaf_pairs keep (test.AtMost path n) a b = empty_normal
leaf_pairs keep (test.Is path u) a b = empty_normal
leaf_pairs keep _ a b = empty_normal

leaf_sets : (keep : Bool) (t : Test) → values.is_normal (leaf_layer keep t body.AllSets) ≡ true
leaf_sets keep (test.AtMost path n) = empty_normal
leaf_sets keep (test.Is path u) = empty_normal
leaf_sets keep _ = empty_normal

leaf_normal : Transitive → (keep : Bool) (t : Test) → Normal (leaf keep t)
leaf_normal transitive keep t = ind_body (λ b. values.is_normal b ≡ true → values.is_normal (leaf keep t b) ≡ true) (record {
  none = λ h. rw out-empty (leaf_empty keep t);
  integers = λ d h. rw (out-integers d) (leaf_integers keep t d);
  members = λ xs h. rw (out-members xs) (leaf_members transitive keep t xs (normal_members xs h));
  pairs = λ a b p q h. rw (out-pairs a b) (leaf_pairs keep t a b);
  sets = λ h. rw out-sets (leaf_sets keep t);
})

module _ (f : Body → Body) (normal : Normal f) where
  pairs_changed : (s : Side) (a b : Body) → values.is_normal a ≡ true → values.is_normal b ≡ true → values.is_normal (changed_in s f (body.Pairs a b)) ≡ true
  pairs_changed side.First a b h k = pairs_normal (f a) b (normal a h) k
  pairs_changed side.Second a b h k = pairs_normal a (f b) h (normal b k)

  empty_changed : (s : Side) → values.is_normal (changed_in s f body.Empty) ≡ true
  empty_changed side.First = empty_normal
  empty_changed side.Second = empty_normal

  integers_changed : (s : Side) (d : Interval) → values.is_normal (changed_in s f (body.Integers d)) ≡ true
  integers_changed side.First d = empty_normal
  integers_changed side.Second d = empty_normal

  members_changed : (s : Side) (xs : List Value) → values.is_normal (changed_in s f (body.Members xs)) ≡ true
  members_changed side.First xs = empty_normal
  members_changed side.Second xs = empty_normal

  sets_changed : (s : Side) → values.is_normal (changed_in s f body.AllSets) ≡ true
  sets_changed side.First = empty_normal
  sets_changed side.Second = empty_normal

  side_normal : (s : Side) → Normal (λ b. changed_in s f (out-Body b))
  side_normal s = ind_body (λ b. values.is_normal b ≡ true → values.is_normal (changed_in s f (out-Body b)) ≡ true) (record {
    none = λ h. rw out-empty (empty_changed s);
    integers = λ d h. rw (out-integers d) (integers_changed s d);
    members = λ xs h. rw (out-members xs) (members_changed s xs);
    pairs = λ a b p q h. let parts = normal_pairs a b h in rw (out-pairs a b) (pairs_changed s a b (filled_normal a parts.0) (filled_normal b parts.1));
    sets = λ h. rw out-sets (sets_changed s);
  })

path_normal : (f : Body → Body) → Normal f → (path : List Side) → Normal (changed_at f path)
path_normal f normal [] b h = normal b h
path_normal f normal (s ∷ path) b h = side_normal (changed_at f path) (path_normal f normal path) s b h

pub part_normal : Transitive → (keep : Bool) (t : Test) (d : Domain) → is_normal d ≡ true → is_normal (part keep t d) ≡ true
part_normal transitive keep t (domain.Truths s) h = refl
part_normal transitive keep (test.AtMost path n) (domain.Values b u) h = path_normal (leaf keep (test.AtMost path n)) (leaf_normal transitive keep (test.AtMost path n)) path b h
part_normal transitive keep (test.Is path w) (domain.Values b u) h = path_normal (leaf keep (test.Is path w)) (leaf_normal transitive keep (test.Is path w)) path b h
part_normal transitive true test.Defined (domain.Values b u) h = h
part_normal transitive false test.Defined (domain.Values b u) h = empty_normal
part_normal transitive keep test.True (domain.Values b u) h = empty_normal
part_normal transitive keep test.False (domain.Values b u) h = empty_normal
part_normal transitive keep test.Undefined (domain.Values b u) h = empty_normal

-- ---- both parts

-- each fact of both parts, where the test fits, is one of the parts that are given
pub parts_are : (d : Domain) (t : Test) (P : Domain × Domain → Type 0) → (fits d t ≡ true → P (part true t d, part false t d)) → IfSome (parts d t) P
parts_are d t P h = at (fits d t) (is_empty (part true t d) || is_empty (part false t d)) refl refl where
  at : (b c : Bool) → fits d t ≡ b → (is_empty (part true t d) || is_empty (part false t d)) ≡ c → IfSome (parts d t) P
  at true true e f = rw (e, f) tt
  at true false e f = rw (e, f) (h e)
  at false c e f = rw e tt

first_passes : (h p : Bool) → (h && p) ≡ false → h ≡ true → p ≡ false
first_passes true p e h = e
first_passes false p e h = cc

second_passes : (h p : Bool) → (h && not p) ≡ false → h ≡ true → p ≡ true
second_passes true true e h = refl
second_passes true false e h = cc
second_passes false p e h = cc

none_first : (h p : Bool) → (h ≡ true → p ≡ false) → (h && p) ≡ false
none_first true p k = k refl
none_first false p k = refl

none_second : (h p : Bool) → (h ≡ true → p ≡ true) → (h && not p) ≡ false
none_second true p k = ap not (k refl)
none_second false p k = refl

module _ (exact : Exact) (reflexive : Reflexive) (transitive : Transitive) (d : Domain) (t : Test) where
  alike : fits d t ≡ true → (a b : Bool) → is_empty (part true t d) ≡ a → is_empty (part false t d) ≡ b → (a || b) ≡ true → AreAlike d t
  alike f true b e g h = inr (λ o k. first_passes (has d o) (passes t o) (sym (part_has exact true t d f o) ∙ empty_has_nothing (part true t d) e o) k)
  alike f false true e g h = inl (λ o k. second_passes (has d o) (passes t o) (sym (part_has exact false t d f o) ∙ empty_has_nothing (part false t d) g o) k)
  alike f false false e g h = cc

  pub none_so : IsNone (parts d t) → (fits d t ≡ false) ⊎ AreAlike d t
  none_so h = at (fits d t) (is_empty (part true t d) || is_empty (part false t d)) refl refl where
    at : (b c : Bool) → fits d t ≡ b → (is_empty (part true t d) || is_empty (part false t d)) ≡ c → (fits d t ≡ false) ⊎ AreAlike d t
    at false c e f = inl e
    at true true e f = inr (alike e (is_empty (part true t d)) (is_empty (part false t d)) refl refl f)
    at true false e f = let k : true ≡ false = (rw (e, f) at h) in cc

  empty_parts : is_normal d ≡ true → fits d t ≡ true → AreAlike d t → (is_empty (part true t d) || is_empty (part false t d)) ≡ true
  empty_parts n f (inl all) =
      let e : is_empty (part false t d) ≡ true = nothing_is_empty reflexive (part false t d) (part_normal transitive false t d n) (λ o. part_has exact false t d f o ∙ none_second (has d o) (passes t o) (all o)) in
      or_second (is_empty (part true t d)) (is_empty (part false t d)) e
    where
      or_second : (b c : Bool) → c ≡ true → (b || c) ≡ true
      or_second true c h = refl
      or_second false c h = h
  empty_parts n f (inr none) =
      let e : is_empty (part true t d) ≡ true = nothing_is_empty reflexive (part true t d) (part_normal transitive true t d n) (λ o. part_has exact true t d f o ∙ none_first (has d o) (passes t o) (none o)) in
      rw e refl

  pub so_none : is_normal d ≡ true → (fits d t ≡ false) ⊎ AreAlike d t → IsNone (parts d t)
  so_none n h = at (fits d t) refl h where
    at : (b : Bool) → fits d t ≡ b → (fits d t ≡ false) ⊎ AreAlike d t → IsNone (parts d t)
    at false e k = rw e refl
    at true e (inl k) = let c : true ≡ false = sym e ∙ k in cc
    at true e (inr k) = rw (e, empty_parts n e k) refl
