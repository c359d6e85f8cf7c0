-- The two parts of a domain have together no more values than the domain.
use Rattle.std.proofs.Common.{◌≡◌, ◌∙◌, ◌≤◌, ◌*◌, ◌+◌, ℕ, ℤ, Bool, true, false, List, [], ◌∷◌, filter, length, refl, ap, subst, arith, add-mul, mul-add}
use Rattle.std.proofs.Math.Nat.{mul-le-mul_left, mul-le-mul_right}
use Rattle.std.proofs.lemmas.List.Filters.{length-filter_both}
use Rattle.eb_value.specs.declared.value.Value.{Value}
use Rattle.eb_term.specs.declared.operators.Side.{Side}
use Rattle.eb_term.specs.declared.operators.Side.TheVariants as side
use Rattle.int_dom.specs.declared.interval.Interval.{Interval}
use Rattle.int_dom.specs.Intervals as interval
use Rattle.int_dom.specs.Intervals.{size, at_most, above, filled}
use Rattle.occ_domains.specs.declared.body.Body.{Body, out-Body}
use Rattle.occ_domains.specs.declared.body.Body.TheOpen as body
use Rattle.occ_domains.specs.declared.body.Body.TheVariants as of
use Rattle.occ_domains.specs.declared.domain.Domain.{Domain}
use Rattle.occ_domains.specs.declared.domain.Domain.TheVariants as domain
use Rattle.occ_domains.specs.declared.tests.Test.{Test}
use Rattle.occ_domains.specs.declared.tests.Test.TheVariants as test
use Rattle.occ_domains.specs.Bodies.{integers, members, pairs}
use Rattle.occ_domains.specs.Tests.{body_of, cut, is_alike, leaf, leaf_layer, changed_in, changed_at, part}
use Rattle.domain_counts.specs.Counts.{count, count_in}
use Rattle.domain_counts.proofs.BodyCounts.{ind_body, out-empty, out-integers, out-members, out-pairs, out-sets, count-empty, count-integers, count-members, count-pairs}
use Rattle.domain_counts.proofs.IntervalCounts.{size_parts}
use Rattle.domain_counts.proofs.BuiltCounts.{integers_count, members_count, pairs_count}

-- ---- at the end of the path

pub cut_is : (e : Interval) → body_of (filled e) ≡ integers e
cut_is e = at (interval.is_empty e) refl where
  at : (b : Bool) → interval.is_empty e ≡ b → body_of (filled e) ≡ integers e
  at true k = rw k refl
  at false k = rw k refl

cut_shared : (n : ℤ) (d : Interval) → count (cut true n d) + count (cut false n d) ≤ size d
cut_shared n d =
    let low : count (cut true n d) ≡ size (at_most n d) = ap count (cut_is (at_most n d)) ∙ integers_count (at_most n d) in
    let high : count (cut false n d) ≡ size (above n d) = ap count (cut_is (above n d)) ∙ integers_count (above n d) in
    rw (low, high) (size_parts n d)

alike_shared : (u : Value) (xs : List Value) → count (members (filter (is_alike true u) xs)) + count (members (filter (is_alike false u) xs)) ≤ length xs
alike_shared u xs =
    rw (members_count (filter (is_alike true u) xs), members_count (filter (is_alike false u) xs))
    (let both : length (filter (is_alike true u) xs) + length (filter (is_alike false u) xs) ≡ length xs = length-filter_both (is_alike true u) (is_alike false u) (λ x. refl) xs in omega arith)

nothing_shared : (n : ℕ) → count of.Empty + count of.Empty ≤ n
nothing_shared n = rw count-empty (omega arith)

-- the bodies of two functions have together no more values than the body that they are made of
abbrev Shared : (Body → Body) → (Body → Body) → Type 0
Shared f g = (b : Body) → count (f b) + count (g b) ≤ count b

-- the two bodies have together no more values than n
abbrev Within : ℕ → (Bool → Body) → Type 0
Within n f = count (f true) + count (f false) ≤ n

leaf_integers : (t : Test) (d : Interval) → Within (size d) (λ keep. leaf_layer keep t (body.Integers d))
leaf_integers (test.AtMost path n) d = cut_shared n d
leaf_integers _ d = nothing_shared (size d)

leaf_members : (t : Test) (xs : List Value) → Within (length xs) (λ keep. leaf_layer keep t (body.Members xs))
leaf_members (test.Is path u) xs = alike_shared u xs
leaf_members _ xs = nothing_shared (length xs)

leaf_empty : (t : Test) (n : ℕ) → Within n (λ keep. leaf_layer keep t body.Empty)
leaf_empty (test.AtMost path m) n = nothing_shared n
leaf_empty (test.Is path u) n = nothing_shared n
leaf_empty _ n = nothing_shared n

leaf_pairs : (t : Test) (n : ℕ) (a b : Body) → Within n (λ keep. leaf_layer keep t (body.Pairs a b))
leaf_pairs (test.AtMost path m) n a b = nothing_shared n
leaf_pairs (test.Is path u) n a b = nothing_shared n
leaf_pairs _ n a b = nothing_shared n

leaf_sets : (t : Test) (n : ℕ) → Within n (λ keep. leaf_layer keep t body.AllSets)
leaf_sets (test.AtMost path m) n = nothing_shared n
leaf_sets (test.Is path u) n = nothing_shared n
leaf_sets _ n = nothing_shared n

leaf_shared : (t : Test) → Shared (leaf true t) (leaf false t)
leaf_shared t = ind_body (λ b. count (leaf true t b) + count (leaf false t b) ≤ count b) (record {
  none = rw out-empty (leaf_empty t (count of.Empty));
  integers = λ d. rw (out-integers d, count-integers d) (leaf_integers t d);
  members = λ xs. rw (out-members xs, count-members xs) (leaf_members t xs);
  pairs = λ a b p q. rw (out-pairs a b) (leaf_pairs t (count (of.Pairs a b)) a b);
  sets = rw out-sets (leaf_sets t (count of.AllSets));
})

-- ---- along the path

module _ (f g : Body → Body) (shared : Shared f g) where
  first_shared : (a b : Body) → count (pairs (f a) b) + count (pairs (g a) b) ≤ count a * count b
  first_shared a b =
      rw (pairs_count (f a) b, pairs_count (g a) b)
      (subst (λ n. n ≤ count a * count b) (add-mul (count (f a)) (count (g a)) (count b)) (mul-le-mul_right (count b) (shared a)))

  second_shared : (a b : Body) → count (pairs a (f b)) + count (pairs a (g b)) ≤ count a * count b
  second_shared a b =
      rw (pairs_count a (f b), pairs_count a (g b))
      (subst (λ n. n ≤ count a * count b) (mul-add (count a) (count (f b)) (count (g b))) (mul-le-mul_left (count a) (shared b)))

  pairs_changed : (s : Side) (a b : Body) → count (changed_in s f (body.Pairs a b)) + count (changed_in s g (body.Pairs a b)) ≤ count a * count b
  pairs_changed side.First a b = first_shared a b
  pairs_changed side.Second a b = second_shared a b

  empty_changed : (s : Side) (n : ℕ) → count (changed_in s f body.Empty) + count (changed_in s g body.Empty) ≤ n
  empty_changed side.First n = nothing_shared n
  empty_changed side.Second n = nothing_shared n

  integers_changed : (s : Side) (d : Interval) (n : ℕ) → count (changed_in s f (body.Integers d)) + count (changed_in s g (body.Integers d)) ≤ n
  integers_changed side.First d n = nothing_shared n
  integers_changed side.Second d n = nothing_shared n

  members_changed : (s : Side) (xs : List Value) (n : ℕ) → count (changed_in s f (body.Members xs)) + count (changed_in s g (body.Members xs)) ≤ n
  members_changed side.First xs n = nothing_shared n
  members_changed side.Second xs n = nothing_shared n

  sets_changed : (s : Side) (n : ℕ) → count (changed_in s f body.AllSets) + count (changed_in s g body.AllSets) ≤ n
  sets_changed side.First n = nothing_shared n
  sets_changed side.Second n = nothing_shared n

  side_shared : (s : Side) → Shared (λ b. changed_in s f (out-Body b)) (λ b. changed_in s g (out-Body b))
  side_shared s = ind_body (λ b. count (changed_in s f (out-Body b)) + count (changed_in s g (out-Body b)) ≤ count b) (record {
    none = rw out-empty (empty_changed s (count of.Empty));
    integers = λ d. rw (out-integers d) (integers_changed s d (count (of.Integers d)));
    members = λ xs. rw (out-members xs) (members_changed s xs (count (of.Members xs)));
    pairs = λ a b p q. rw (out-pairs a b, count-pairs a b) (pairs_changed s a b);
    sets = rw out-sets (sets_changed s (count of.AllSets));
  })

path_shared : (f g : Body → Body) → Shared f g → (path : List Side) → Shared (changed_at f path) (changed_at g path)
path_shared f g shared [] b = shared b
path_shared f g shared (s ∷ path) b = side_shared (changed_at f path) (changed_at g path) (path_shared f g shared path) s b

-- ---- of domains

pub part_shared : (t : Test) (d : Domain) → count_in (part true t d) + count_in (part false t d) ≤ count_in d
part_shared t (domain.Truths s) = omega arith
part_shared (test.AtMost path n) (domain.Values b u) = path_shared (leaf true (test.AtMost path n)) (leaf false (test.AtMost path n)) (leaf_shared (test.AtMost path n)) path b
part_shared (test.Is path v) (domain.Values b u) = path_shared (leaf true (test.Is path v)) (leaf false (test.Is path v)) (leaf_shared (test.Is path v)) path b
part_shared test.Defined (domain.Values b u) = rw count-empty (omega arith)
part_shared test.True (domain.Values b u) = nothing_shared (count b)
part_shared test.False (domain.Values b u) = nothing_shared (count b)
part_shared test.Undefined (domain.Values b u) = nothing_shared (count b)
