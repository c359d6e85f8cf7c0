-- The two parts of a domain have no more room.
use Rattle.std.proofs.Common.{◌≡◌, ◌⊎◌, inl, inr, ◌≤◌, ◌<◌, Bool, true, false, not, ◌||◌, ℤ, ◌≤ℤ◌, List, [], ◌∷◌, filter, length, Some, None, ap, refl, subst, arith}
use Rattle.std.proofs.lemmas.Int.{ints, clamps, by_lt_z}
use Rattle.eb_value.specs.declared.value.Value.{Value}
use Rattle.eb_term.specs.declared.operators.Side.{Side}
use Rattle.eb_term.specs.declared.operators.Side.TheVariants as side
use Rattle.eb_operations.specs.declared.truth3.Truth3.TheVariants as is
use Rattle.int_dom.specs.declared.interval.Interval.{Interval}
use Rattle.int_dom.specs.Intervals as interval
use Rattle.int_dom.specs.Intervals.{size, at_most, above, filled}
use Rattle.occ_domains.specs.declared.body.Body.{Body, out-Body}
use Rattle.occ_domains.specs.declared.body.Body.TheVariants as of
use Rattle.occ_domains.specs.declared.domain.Domain.{Domain}
use Rattle.occ_domains.specs.declared.domain.Domain.TheVariants as domain
use Rattle.occ_domains.specs.declared.tests.Test.{Test}
use Rattle.occ_domains.specs.declared.tests.Test.TheVariants as test
use Rattle.occ_domains.specs.Bodies.{is_empty, members, pairs}
use Rattle.occ_domains.specs.Domains as domains
use Rattle.occ_domains.specs.Domains.{truth}
use Rattle.occ_domains.specs.Tests.{passes, fits, is_kept, is_alike, body_of, cut, leaf, changed_in, changed_at, part, parts}
use Rattle.domain_changes.specs.Room.{body_room, room}
use Rattle.domain_changes.proofs.BodyInduction.{ind_body, out-empty, out-integers, out-members, out-pairs, out-sets}
use Rattle.domain_changes.proofs.RoomLaws.{room-empty, room-integers, room-members, room-pairs, room_of_members, filter_falls, width, no_width}
use Rattle.domain_changes.proofs.DomainRoom.{bit_most}

abbrev Most : (Body → Body) → Type 0
Most f = (b : Body) → body_room (f b) ≤ body_room b

none_most : (b : Body) → body_room of.Empty ≤ body_room b
none_most b = omega (arith, room-empty)

-- ---- what stands at the path

within_most : (c d : Interval) → d.lo ≤ℤ c.lo → c.hi ≤ℤ d.hi → size c ≤ size d
within_most c d low high = by_lt_z c.hi c.lo
    (λ less. omega (arith, no_width c less))
    (λ some. omega (arith, ints, width c some, width d (omega (arith, ints))))

filled_most : (c d : Interval) → size c ≤ size d → body_room (body_of (filled c)) ≤ body_room (of.Integers d)
filled_most c d h = at (interval.is_empty c) refl where
  at : (b : Bool) → interval.is_empty c ≡ b → body_room (body_of (filled c)) ≤ body_room (of.Integers d)
  at true e = rw e (none_most (of.Integers d))
  at false e = rw e (omega (arith, room-integers c, room-integers d))

cut_most : (keep : Bool) (n : ℤ) (d : Interval) → body_room (cut keep n d) ≤ body_room (of.Integers d)
cut_most true n d = filled_most (at_most n d) d (within_most (at_most n d) d (omega (arith, ints, clamps)) (omega (arith, ints, clamps)))
cut_most false n d = filled_most (above n d) d (within_most (above n d) d (omega (arith, ints, clamps)) (omega (arith, ints, clamps)))

filter_most : (q : Value → Bool) (xs : List Value) → body_room (members (filter q xs)) ≤ body_room (of.Members xs)
filter_most q xs = at (filter_falls q xs) where
  at : (filter q xs ≡ xs) ⊎ (length (filter q xs) < length xs) → body_room (members (filter q xs)) ≤ body_room (of.Members xs)
  at (inl e) = omega (arith, ap length e, room_of_members (filter q xs), room-members xs)
  at (inr less) = omega (arith, room_of_members (filter q xs), room-members xs)

at_most_leaf : (keep : Bool) (path : List Side) (n : ℤ) → Most (leaf keep (test.AtMost path n))
at_most_leaf keep path n = ind_body (λ b. body_room (leaf keep (test.AtMost path n) b) ≤ body_room b) (record {
  none = rw out-empty (none_most of.Empty);
  integers = λ d. rw (out-integers d) (cut_most keep n d);
  members = λ xs. rw (out-members xs) (none_most (of.Members xs));
  pairs = λ a b p q. rw (out-pairs a b) (none_most (of.Pairs a b));
  sets = rw out-sets (none_most of.AllSets);
})

is_leaf : (keep : Bool) (path : List Side) (v : Value) → Most (leaf keep (test.Is path v))
is_leaf keep path v = ind_body (λ b. body_room (leaf keep (test.Is path v) b) ≤ body_room b) (record {
  none = rw out-empty (none_most of.Empty);
  integers = λ d. rw (out-integers d) (none_most (of.Integers d));
  members = λ xs. rw (out-members xs) (filter_most (is_alike keep v) xs);
  pairs = λ a b p q. rw (out-pairs a b) (none_most (of.Pairs a b));
  sets = rw out-sets (none_most of.AllSets);
})

-- ---- at a path

pairs_most : (a b x y : Body) → body_room x ≤ body_room a → body_room y ≤ body_room b → body_room (pairs x y) ≤ body_room (of.Pairs a b)
pairs_most a b x y h k = at (is_empty x) (is_empty y) refl refl where
  at : (c d : Bool) → is_empty x ≡ c → is_empty y ≡ d → body_room (pairs x y) ≤ body_room (of.Pairs a b)
  at true d e f = rw e (none_most (of.Pairs a b))
  at false true e f = rw (e, f) (none_most (of.Pairs a b))
  at false false e f = rw (e, f) (omega (arith, room-pairs a b, room-pairs x y))

module _ (f : Body → Body) (most : Most f) where
  side_most : (s : Side) → Most (λ b. changed_in s f (out-Body b))
  side_most side.First = ind_body (λ b. body_room (changed_in side.First f (out-Body b)) ≤ body_room b) (record {
    none = rw out-empty (none_most of.Empty);
    integers = λ d. rw (out-integers d) (none_most (of.Integers d));
    members = λ xs. rw (out-members xs) (none_most (of.Members xs));
    pairs = λ a b p q. rw (out-pairs a b) (pairs_most a b (f a) b (most a) (omega arith));
    sets = rw out-sets (none_most of.AllSets);
  })
  side_most side.Second = ind_body (λ b. body_room (changed_in side.Second f (out-Body b)) ≤ body_room b) (record {
    none = rw out-empty (none_most of.Empty);
    integers = λ d. rw (out-integers d) (none_most (of.Integers d));
    members = λ xs. rw (out-members xs) (none_most (of.Members xs));
    pairs = λ a b p q. rw (out-pairs a b) (pairs_most a b a (f b) (omega arith) (most b));
    sets = rw out-sets (none_most of.AllSets);
  })

path_most : (f : Body → Body) → Most f → (path : List Side) → Most (changed_at f path)
path_most f most [] b = most b
path_most f most (s ∷ path) b = side_most (changed_at f path) (path_most f most path) s b

-- ---- domains

part_most : (keep : Bool) (t : Test) (d : Domain) → room (part keep t d) ≤ room d
part_most keep t (domain.Truths s) = omega (arith, bit_most s.can_be_true (is_kept keep (passes t (truth is.True))), bit_most s.can_be_false (is_kept keep (passes t (truth is.False))), bit_most s.can_be_undefined (is_kept keep (passes t (truth is.Undefined))))
part_most keep (test.AtMost path n) (domain.Values b u) = omega (arith, bit_most u (not keep), path_most (leaf keep (test.AtMost path n)) (at_most_leaf keep path n) path b)
part_most keep (test.Is path v) (domain.Values b u) = omega (arith, bit_most u (not keep), path_most (leaf keep (test.Is path v)) (is_leaf keep path v) path b)
part_most true test.Defined (domain.Values b u) = omega arith
part_most false test.Defined (domain.Values b u) = omega (arith, room-empty)
part_most keep test.True (domain.Values b u) = omega (arith, room-empty)
part_most keep test.False (domain.Values b u) = omega (arith, room-empty)
part_most keep test.Undefined (domain.Values b u) = omega (arith, room-empty)

given_parts : (d : Domain) (t : Test) (two : Domain × Domain) → parts d t ≡ Some two → (part true t d ≡ two.0) × (part false t d ≡ two.1)
given_parts d t two h = at (fits d t) (domains.is_empty (part true t d) || domains.is_empty (part false t d)) refl refl where
  at : (f e : Bool) → fits d t ≡ f → (domains.is_empty (part true t d) || domains.is_empty (part false t d)) ≡ e → (part true t d ≡ two.0) × (part false t d ≡ two.1)
  at false e p q = let k : None ≡ Some two = (rw p at h) in cc
  at true true p q = let k : None ≡ Some two = (rw (p, q) at h) in cc
  at true false p q =
      let k : Some (part true t d, part false t d) ≡ Some two = (rw (p, q) at h) in
      let both : (part true t d, part false t d) ≡ two = cc in
      (ap (λ z. z.0) both, ap (λ z. z.1) both)

pub parts_most : (d : Domain) (t : Test) (two : Domain × Domain) → parts d t ≡ Some two → (room two.0 ≤ room d) × (room two.1 ≤ room d)
parts_most d t two h =
    let given = given_parts d t two h in
    (subst (λ x. room x ≤ room d) given.0 (part_most true t d), subst (λ x. room x ≤ room d) given.1 (part_most false t d))
