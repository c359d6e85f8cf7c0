-- The parts of a domain without sets are without sets.
use Rattle.std.proofs.Common.{◌≡◌, ◌∙◌, ℤ, Bool, true, false, ◌&&◌, List, [], ◌∷◌, filter, refl, sym, ap}
use Rattle.std.specs.Cmp.{first_so, second_so}
use Rattle.eb_value.specs.declared.value.Value.{Value}
use Rattle.eb_term.specs.declared.operators.Side.{Side}
use Rattle.eb_term.specs.declared.operators.Side.TheVariants as side
use Rattle.int_dom.specs.declared.interval.Interval.{Interval}
use Rattle.int_dom.specs.Intervals.{at_most, above}
use Rattle.occ_domains.specs.declared.body.Body.{Body, Body-F, out-Body}
use Rattle.occ_domains.specs.declared.body.Body.TheOpen as body
use Rattle.occ_domains.specs.declared.domain.Domain.{Domain}
use Rattle.occ_domains.specs.declared.domain.Domain.TheVariants as domain
use Rattle.occ_domains.specs.declared.tests.Test.{Test}
use Rattle.occ_domains.specs.declared.tests.Test.TheVariants as test
use Rattle.occ_domains.specs.Tests.{cut, is_alike, leaf, leaf_layer, changed_in, changed_at, part}
use Rattle.domain_counts.specs.Counts.{is_setless, is_setless_in}
use Rattle.domain_counts.proofs.BodyCounts.{ind_body, out-empty, out-integers, out-members, out-pairs, out-sets, setless-empty, setless-pairs}
use Rattle.domain_counts.proofs.BuiltCounts.{integers_setless, members_setless, pairs_setless}
use Rattle.domain_counts.proofs.PartCounts.{cut_is}

cut_setless : (keep : Bool) (n : ℤ) (d : Interval) → is_setless (cut keep n d) ≡ true
cut_setless true n d = ap is_setless (cut_is (at_most n d)) ∙ integers_setless (at_most n d)
cut_setless false n d = ap is_setless (cut_is (above n d)) ∙ integers_setless (above n d)

-- whatever the layer, since what doesn't fit has an empty part
layer_setless : (keep : Bool) (t : Test) (z : Body-F Body) → is_setless (leaf_layer keep t z) ≡ true
layer_setless keep (test.AtMost path n) (body.Integers d) = cut_setless keep n d
layer_setless keep (test.AtMost path n) _ = setless-empty
layer_setless keep (test.Is path u) (body.Members xs) = members_setless (filter (is_alike keep u) xs)
layer_setless keep (test.Is path u) _ = setless-empty
layer_setless keep _ _ = setless-empty

abbrev Keeps : (Body → Body) → Type 0
Keeps f = (b : Body) → is_setless b ≡ true → is_setless (f b) ≡ true

module _ (f : Body → Body) (keeps : Keeps f) where
  pairs_changed : (s : Side) (a b : Body) → is_setless a ≡ true → is_setless b ≡ true → is_setless (changed_in s f (body.Pairs a b)) ≡ true
  pairs_changed side.First a b h k = pairs_setless (f a) b (keeps a h) k
  pairs_changed side.Second a b h k = pairs_setless a (f b) h (keeps b k)

  empty_changed : (s : Side) → is_setless (changed_in s f body.Empty) ≡ true
  empty_changed side.First = setless-empty
  empty_changed side.Second = setless-empty

  integers_changed : (s : Side) (d : Interval) → is_setless (changed_in s f (body.Integers d)) ≡ true
  integers_changed side.First d = setless-empty
  integers_changed side.Second d = setless-empty

  members_changed : (s : Side) (xs : List Value) → is_setless (changed_in s f (body.Members xs)) ≡ true
  members_changed side.First xs = setless-empty
  members_changed side.Second xs = setless-empty

  sets_changed : (s : Side) → is_setless (changed_in s f body.AllSets) ≡ true
  sets_changed side.First = setless-empty
  sets_changed side.Second = setless-empty

  side_keeps : (s : Side) → Keeps (λ b. changed_in s f (out-Body b))
  side_keeps s = ind_body (λ b. is_setless b ≡ true → is_setless (changed_in s f (out-Body b)) ≡ true) (record {
    none = λ h. rw out-empty (empty_changed s);
    integers = λ d h. rw (out-integers d) (integers_changed s d);
    members = λ xs h. rw (out-members xs) (members_changed s xs);
    pairs = λ a b p q h.
        let both : (is_setless a && is_setless b) ≡ true = sym (setless-pairs a b) ∙ h in
        rw (out-pairs a b) (pairs_changed s a b (first_so (is_setless a) (is_setless b) both) (second_so (is_setless a) (is_setless b) both));
    sets = λ h. rw out-sets (sets_changed s);
  })

path_keeps : (f : Body → Body) → Keeps f → (path : List Side) → Keeps (changed_at f path)
path_keeps f keeps [] b h = keeps b h
path_keeps f keeps (s ∷ path) b h = side_keeps (changed_at f path) (path_keeps f keeps path) s b h

leaf_keeps : (keep : Bool) (t : Test) → Keeps (leaf keep t)
leaf_keeps keep t b h = layer_setless keep t (out-Body b)

pub part_setless : (keep : Bool) (t : Test) (d : Domain) → is_setless_in d ≡ true → is_setless_in (part keep t d) ≡ true
part_setless keep t (domain.Truths s) h = refl
part_setless keep (test.AtMost path n) (domain.Values b u) h = path_keeps (leaf keep (test.AtMost path n)) (leaf_keeps keep (test.AtMost path n)) path b h
part_setless keep (test.Is path v) (domain.Values b u) h = path_keeps (leaf keep (test.Is path v)) (leaf_keeps keep (test.Is path v)) path b h
part_setless true test.Defined (domain.Values b u) h = h
part_setless false test.Defined (domain.Values b u) h = setless-empty
part_setless keep test.True (domain.Values b u) h = setless-empty
part_setless keep test.False (domain.Values b u) h = setless-empty
part_setless keep test.Undefined (domain.Values b u) h = setless-empty
