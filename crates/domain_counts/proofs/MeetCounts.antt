-- A meet has no more values than the first, and is without sets where the first is.
use Rattle.std.proofs.Common.{◌≡◌, ◌∙◌, ◌≤◌, ◌+◌, ◌*◌, ℕ, Bool, true, false, not, ◌&&◌, List, filter, length, refl, sym, arith, rules}
use Rattle.std.specs.Cmp.{first_so, second_so}
use Rattle.std.proofs.Math.Nat.{mul-le-mul}
use Rattle.std.proofs.lemmas.List.Filters.{length-filter_both}
use Rattle.eb_value.specs.declared.value.Value.{Value}
use Rattle.eb_value.specs.Comprehensions.{has as is_among}
use Rattle.int_dom.specs.declared.interval.Interval.{Interval}
use Rattle.int_dom.specs.Intervals.{size}
use Rattle.occ_domains.specs.declared.body.Body.{Body, Body-F, out-Body, the_lemmas}
use Rattle.occ_domains.specs.declared.body.Body.TheOpen as body
use Rattle.occ_domains.specs.declared.body.Body.TheVariants as of
use Rattle.occ_domains.specs.declared.domain.Domain.{Domain}
use Rattle.occ_domains.specs.declared.domain.Domain.TheVariants as domain
use Rattle.occ_domains.specs.Bodies.{common, meet, meet_step}
use Rattle.occ_domains.specs.Domains as domains
use Rattle.domain_counts.specs.Counts.{count, is_setless, count_in}
use Rattle.domain_counts.proofs.BodyCounts.{ind_body, count-empty, count-integers, count-members, count-pairs, count-sets, setless-empty, setless-pairs, setless-sets}
use Rattle.domain_counts.proofs.IntervalCounts.{size_common}
use Rattle.domain_counts.proofs.BuiltCounts.{integers_count, members_count, pairs_count, integers_setless, members_setless, pairs_setless}

-- ---- at the constructors

meet-empty : (b : Body) → meet of.Empty b ≡ of.Empty
meet-empty b = search (rules, the_lemmas)

meet-integers : (c : Interval) (b : Body) → meet (of.Integers c) b ≡ meet_step (body.Integers c) (out-Body b)
meet-integers c b = search (rules, the_lemmas)

meet-members : (xs : List Value) (b : Body) → meet (of.Members xs) b ≡ meet_step (body.Members xs) (out-Body b)
meet-members xs b = search (rules, the_lemmas)

meet-pairs : (a c b : Body) → meet (of.Pairs a c) b ≡ meet_step (body.Pairs (meet a) (meet c)) (out-Body b)
meet-pairs a c b = search (rules, the_lemmas)

meet-sets : (b : Body) → meet of.AllSets b ≡ meet_step body.AllSets (out-Body b)
meet-sets b = search (rules, the_lemmas)

-- ---- counts

fewer_kept : (p : Value → Bool) (xs : List Value) → length (filter p xs) ≤ length xs
fewer_kept p xs = let both : length (filter p xs) + length (filter (λ x. not (p x)) xs) ≡ length xs = length-filter_both p (λ x. not (p x)) (λ x. refl) xs in omega arith

abbrev AtMost : ℕ → Body → Type 0
AtMost n b = count b ≤ n

nothing_fewer : (n : ℕ) → AtMost n of.Empty
nothing_fewer n = rw count-empty (omega arith)

integers_fewer : (c : Interval) (z : Body-F Body) → AtMost (size c) (meet_step (body.Integers c) z)
integers_fewer c (body.Integers d) = rw (integers_count (common c d)) (size_common c d)
integers_fewer c _ = nothing_fewer (size c)

members_fewer : (xs : List Value) (z : Body-F Body) → AtMost (length xs) (meet_step (body.Members xs) z)
members_fewer xs (body.Members ys) = rw (members_count (filter (is_among ys) xs)) (fewer_kept (is_among ys) xs)
members_fewer xs _ = nothing_fewer (length xs)

pairs_fewer : (a b : Body) → ((c : Body) → AtMost (count a) (meet a c)) → ((d : Body) → AtMost (count b) (meet b d))
    → (z : Body-F Body) → AtMost (count a * count b) (meet_step (body.Pairs (meet a) (meet b)) z)
pairs_fewer a b p q (body.Pairs c d) = rw (pairs_count (meet a c) (meet b d)) (mul-le-mul (p c) (q d))
pairs_fewer a b p q _ = nothing_fewer (count a * count b)

sets_fewer : (z : Body-F Body) → AtMost 1 (meet_step body.AllSets z)
sets_fewer body.AllSets = rw count-sets (omega arith)
sets_fewer _ = nothing_fewer 1

pub meet_fewer : (a b : Body) → count (meet a b) ≤ count a
meet_fewer = ind_body (λ a. (b : Body) → AtMost (count a) (meet a b)) (record {
  none = λ b. rw (meet-empty b) (omega arith);
  integers = λ c b. rw (meet-integers c b, count-integers c) (integers_fewer c (out-Body b));
  members = λ xs b. rw (meet-members xs b, count-members xs) (members_fewer xs (out-Body b));
  pairs = λ a c p q b. rw (meet-pairs a c b, count-pairs a c) (pairs_fewer a c p q (out-Body b));
  sets = λ b. rw (meet-sets b, count-sets) (sets_fewer (out-Body b));
})

pub meet_fewer_in : (a b : Domain) → count_in (domains.meet a b) ≤ count_in a
meet_fewer_in (domain.Truths s) (domain.Truths t) = omega arith
meet_fewer_in (domain.Truths s) (domain.Values b w) = nothing_fewer 0
meet_fewer_in (domain.Values a u) (domain.Truths t) = nothing_fewer (count a)
meet_fewer_in (domain.Values a u) (domain.Values b w) = meet_fewer a b

-- ---- without sets

abbrev Setless : Body → Type 0
Setless b = is_setless b ≡ true

integers_kept : (c : Interval) (z : Body-F Body) → Setless (meet_step (body.Integers c) z)
integers_kept c (body.Integers d) = integers_setless (common c d)
integers_kept c _ = setless-empty

members_kept : (xs : List Value) (z : Body-F Body) → Setless (meet_step (body.Members xs) z)
members_kept xs (body.Members ys) = members_setless (filter (is_among ys) xs)
members_kept xs _ = setless-empty

pairs_kept : (a b : Body) → ((c : Body) → Setless (meet a c)) → ((d : Body) → Setless (meet b d))
    → (z : Body-F Body) → Setless (meet_step (body.Pairs (meet a) (meet b)) z)
pairs_kept a b p q (body.Pairs c d) = pairs_setless (meet a c) (meet b d) (p c) (q d)
pairs_kept a b p q _ = setless-empty

pub meet_setless : (a : Body) → Setless a → (b : Body) → Setless (meet a b)
meet_setless = ind_body (λ a. Setless a → (b : Body) → Setless (meet a b)) (record {
  none = λ h b. rw (meet-empty b) setless-empty;
  integers = λ c h b. rw (meet-integers c b) (integers_kept c (out-Body b));
  members = λ xs h b. rw (meet-members xs b) (members_kept xs (out-Body b));
  pairs = λ a c p q h b.
      let both : (is_setless a && is_setless c) ≡ true = sym (setless-pairs a c) ∙ h in
      rw (meet-pairs a c b) (pairs_kept a c (p (first_so (is_setless a) (is_setless c) both)) (q (second_so (is_setless a) (is_setless c) both)) (out-Body b));
  sets = λ h b. let k : false ≡ true = sym setless-sets ∙ h in cc;
})
