-- A meet leaves its first, or has less room.
use Rattle.std.proofs.Common.{◌≡◌, ◌∙◌, ◌⊎◌, inl, inr, suc, ◌+◌, ◌<◌, Bool, true, false, not, ◌&&◌, ◌||◌, ℤ, pos, negsuc, ◌+ℤ◌, ◌≤ℤ◌, ◌<ℤ◌, List, [], ◌∷◌, filter, length, refl, sym, ap, arith, rules}
use Rattle.std.specs.Cmp.{first_so, second_so}
use Rattle.std.specs.Int.{int_gap, int_max, int_min}
use Rattle.std.proofs.lemmas.Int.{ints, clamps, by_lt_z}
use Rattle.eb_value.specs.declared.value.Value.{Value}
use Rattle.eb_value.specs.Comprehensions.{has as is_among}
use Rattle.int_dom.specs.declared.interval.Interval.{Interval}
use Rattle.int_dom.specs.Intervals as interval
use Rattle.int_dom.specs.Intervals.{size}
use Rattle.occ_domains.specs.declared.body.Body.{Body, Body-F, out-Body, the_lemmas}
use Rattle.occ_domains.specs.declared.body.Body.TheOpen as body
use Rattle.occ_domains.specs.declared.body.Body.TheVariants as of
use Rattle.occ_domains.specs.Bodies.{is_empty, is_list, is_filled, is_normal, integers, members, pairs, common, meet, meet_step}
use Rattle.domain_changes.specs.Room.{body_room}
use Rattle.domain_changes.proofs.BodyInduction.{ind_body}

-- ---- at the constructors

pub room-empty : body_room of.Empty ≡ 0
room-empty = search (rules, the_lemmas)

pub room-integers : (d : Interval) → body_room (of.Integers d) ≡ size d
room-integers d = search (rules, the_lemmas)

pub room-members : (xs : List Value) → body_room (of.Members xs) ≡ length xs
room-members xs = search (rules, the_lemmas)

pub room-pairs : (a b : Body) → body_room (of.Pairs a b) ≡ 1 + (body_room a + body_room b)
room-pairs a b = search (rules, the_lemmas)

pub room-sets : body_room of.AllSets ≡ 1
room-sets = search (rules, the_lemmas)

normal-integers : (d : Interval) → is_normal (of.Integers d) ≡ not (interval.is_empty d)
normal-integers d = search (rules, the_lemmas)

normal-members : (xs : List Value) → is_normal (of.Members xs) ≡ is_list xs
normal-members xs = search (rules, the_lemmas)

normal-pairs : (a b : Body) → is_normal (of.Pairs a b) ≡ (is_filled a && is_filled b)
normal-pairs a b = search (rules, the_lemmas)

or_so : (b c : Bool) → c ≡ true → (b || c) ≡ true
or_so true c h = refl
or_so false c h = h

filled_normal : (b : Body) → is_filled b ≡ true → is_normal b ≡ true
filled_normal b h = or_so (is_empty b) (is_filled b) h

-- ---- the widths of intervals

gap_up : (lo end : ℤ) → lo ≤ℤ end → lo +ℤ pos (int_gap lo end) ≡ end
gap_up (pos a) (pos b) h = omega (arith, ints)
gap_up (pos a) (negsuc b) h = absurd (omega (arith, ints))
gap_up (negsuc a) (pos b) h = omega (arith, ints)
gap_up (negsuc a) (negsuc b) h = omega (arith, ints)

gap_none : (lo end : ℤ) → end ≤ℤ lo → int_gap lo end ≡ 0
gap_none (pos a) (pos b) h = omega (arith, ints)
gap_none (pos a) (negsuc b) h = refl
gap_none (negsuc a) (pos b) h = absurd (omega (arith, ints))
gap_none (negsuc a) (negsuc b) h = omega (arith, ints)

not_empty : (d : Interval) → not (interval.is_empty d) ≡ true → d.lo ≤ℤ d.hi
not_empty d h = grind (arith, ints)

pub width : (d : Interval) → d.lo ≤ℤ d.hi → d.lo +ℤ pos (size d) ≡ d.hi +ℤ pos 1
width d h = gap_up d.lo (d.hi +ℤ pos 1) (omega (arith, ints))

pub no_width : (d : Interval) → d.hi <ℤ d.lo → size d ≡ 0
no_width d h = gap_none d.lo (d.hi +ℤ pos 1) (omega (arith, ints))

some_width : (d : Interval) → d.lo ≤ℤ d.hi → 0 < size d
some_width d h = let w = width d h in omega (arith, ints)

-- ---- what falls

-- the second is the first, or has less room
abbrev pub Falls : Body → Body → Type 0
Falls a m = (m ≡ a) ⊎ (body_room m < body_room a)

abbrev Empties : Body → Type 0
Empties a = is_normal a ≡ true → Falls a of.Empty

some_values : (xs : List Value) → is_list xs ≡ true → 0 < length xs
some_values [] h = cc
some_values (x ∷ xs) h = omega arith

-- without values at last
pub empty_falls : (a : Body) → Empties a
empty_falls = ind_body Empties (record {
  none = λ h. inl refl;
  integers = λ d h. let s = some_width d (not_empty d (sym (normal-integers d) ∙ h)) in inr (omega (arith, room-empty, room-integers d));
  members = λ xs h. let s = some_values xs (sym (normal-members xs) ∙ h) in inr (omega (arith, room-empty, room-members xs));
  pairs = λ a b p q h. inr (omega (arith, room-empty, room-pairs a b));
  sets = λ h. inr (omega (arith, room-empty, room-sets));
})

abbrev interval_of : ℤ → ℤ → Interval
interval_of lo hi = record { lo = lo; hi = hi }

common_falls : (c d : Interval) → (common c d).lo ≤ℤ (common c d).hi → (common c d ≡ c) ⊎ (size (common c d) < size c)
common_falls c d h =
    let whole : c.lo +ℤ pos (size c) ≡ c.hi +ℤ pos 1 = width c (omega (arith, ints, clamps)) in
    let part : int_max c.lo d.lo +ℤ pos (size (common c d)) ≡ int_min c.hi d.hi +ℤ pos 1 = width (common c d) h in
    by_lt_z c.lo d.lo (λ less. inr (omega (arith, ints, clamps))) (λ low. by_lt_z d.hi c.hi (λ less. inr (omega (arith, ints, clamps))) (λ high.
    let first : int_max c.lo d.lo ≡ c.lo = omega (arith, ints, clamps) in
    let second : int_min c.hi d.hi ≡ c.hi = omega (arith, ints, clamps) in
    inl (ap (λ x. interval_of x (int_min c.hi d.hi)) first ∙ ap (interval_of c.lo) second)))

-- ---- at the kinds of the first

integers_fall : (c d : Interval) → is_normal (of.Integers c) ≡ true → Falls (of.Integers c) (integers (common c d))
integers_fall c d h = at (interval.is_empty (common c d)) refl where
  narrower : (common c d ≡ c) ⊎ (size (common c d) < size c) → Falls (of.Integers c) (of.Integers (common c d))
  narrower (inl e) = inl (ap of.Integers e)
  narrower (inr less) = inr (omega (arith, room-integers c, room-integers (common c d)))

  at : (b : Bool) → interval.is_empty (common c d) ≡ b → Falls (of.Integers c) (integers (common c d))
  at true e = rw e (empty_falls (of.Integers c) h)
  at false e = rw e (narrower (common_falls c d (not_empty (common c d) (ap not e))))

pub filter_falls : (q : Value → Bool) (xs : List Value) → (filter q xs ≡ xs) ⊎ (length (filter q xs) < length xs)
filter_falls q [] = inl refl
filter_falls q (x ∷ xs) = at (q x) refl (filter_falls q xs) where
  at : (b : Bool) → q x ≡ b → (filter q xs ≡ xs) ⊎ (length (filter q xs) < length xs) → (filter q (x ∷ xs) ≡ x ∷ xs) ⊎ (length (filter q (x ∷ xs)) < suc (length xs))
  at true e (inl same) = rw e (inl (ap (λ l. x ∷ l) same))
  at true e (inr less) = rw e (inr (omega arith))
  at false e (inl same) = rw e (inr (omega (arith, ap length same)))
  at false e (inr less) = rw e (inr (omega arith))

pub room_of_members : (xs : List Value) → body_room (members xs) ≡ length xs
room_of_members [] = room-empty
room_of_members (x ∷ xs) = room-members (x ∷ xs)

members_are : (xs : List Value) → is_list xs ≡ true → members xs ≡ of.Members xs
members_are [] h = cc
members_are (x ∷ xs) h = refl

members_fall : (q : Value → Bool) (xs : List Value) → is_list xs ≡ true → Falls (of.Members xs) (members (filter q xs))
members_fall q xs h = at (filter_falls q xs) where
  at : (filter q xs ≡ xs) ⊎ (length (filter q xs) < length xs) → Falls (of.Members xs) (members (filter q xs))
  at (inl e) = inl (ap members e ∙ members_are xs h)
  at (inr less) = inr (omega (arith, room-members xs, room_of_members (filter q xs)))

pairs_fall : (a b x y : Body) → is_normal (of.Pairs a b) ≡ true → Falls a x → Falls b y → Falls (of.Pairs a b) (pairs x y)
pairs_fall a b x y h p q = at (is_empty x) (is_empty y) refl refl where
  both : Falls a x → Falls b y → Falls (of.Pairs a b) (of.Pairs x y)
  both (inl e) (inl f) = inl (ap (λ z. of.Pairs z y) e ∙ ap (of.Pairs a) f)
  both (inl e) (inr less) = inr (omega (arith, ap body_room e, room-pairs a b, room-pairs x y))
  both (inr less) (inl f) = inr (omega (arith, ap body_room f, room-pairs a b, room-pairs x y))
  both (inr less) (inr more) = inr (omega (arith, room-pairs a b, room-pairs x y))

  at : (c d : Bool) → is_empty x ≡ c → is_empty y ≡ d → Falls (of.Pairs a b) (pairs x y)
  at true d e f = rw e (empty_falls (of.Pairs a b) h)
  at false true e f = rw (e, f) (empty_falls (of.Pairs a b) h)
  at false false e f = rw (e, f) (both p q)

-- ---- bodies

meet-empty : (b : Body) → meet of.Empty b ≡ of.Empty
meet-empty b = search (rules, the_lemmas)

meet-integers : (c : Interval) (b : Body) → meet (of.Integers c) b ≡ meet_step (body.Integers c) (out-Body b)
meet-integers c b = search (rules, the_lemmas)

meet-members : (xs : List Value) (b : Body) → meet (of.Members xs) b ≡ meet_step (body.Members xs) (out-Body b)
meet-members xs b = search (rules, the_lemmas)

meet-pairs : (a c b : Body) → meet (of.Pairs a c) b ≡ meet_step (body.Pairs (meet a) (meet c)) (out-Body b)
meet-pairs a c b = search (rules, the_lemmas)

meet-sets : (b : Body) → meet of.AllSets b ≡ meet_step body.AllSets (out-Body b)
meet-sets b = search (rules, the_lemmas)

abbrev Fall : Body → Type 0
Fall a = is_normal a ≡ true → (b : Body) → Falls a (meet a b)

integers_step : (c : Interval) → is_normal (of.Integers c) ≡ true → (z : Body-F Body) → Falls (of.Integers c) (meet_step (body.Integers c) z)
integers_step c h (body.Integers d) = integers_fall c d h
integers_step c h _ = empty_falls (of.Integers c) h

members_step : (xs : List Value) → is_normal (of.Members xs) ≡ true → (z : Body-F Body) → Falls (of.Members xs) (meet_step (body.Members xs) z)
members_step xs h (body.Members ys) = members_fall (is_among ys) xs (sym (normal-members xs) ∙ h)
members_step xs h _ = empty_falls (of.Members xs) h

pairs_step : (a c : Body) → Fall a → Fall c → is_normal (of.Pairs a c) ≡ true → (z : Body-F Body) → Falls (of.Pairs a c) (meet_step (body.Pairs (meet a) (meet c)) z)
pairs_step a c p q h (body.Pairs x y) =
    let both : (is_filled a && is_filled c) ≡ true = sym (normal-pairs a c) ∙ h in
    let first = p (filled_normal a (first_so (is_filled a) (is_filled c) both)) x in
    let second = q (filled_normal c (second_so (is_filled a) (is_filled c) both)) y in
    pairs_fall a c (meet a x) (meet c y) h first second
pairs_step a c p q h _ = empty_falls (of.Pairs a c) h

sets_step : is_normal of.AllSets ≡ true → (z : Body-F Body) → Falls of.AllSets (meet_step body.AllSets z)
sets_step h body.AllSets = inl refl
sets_step h _ = empty_falls of.AllSets h

pub body_falls : (a : Body) → Fall a
body_falls = ind_body Fall (record {
  none = λ h b. inl (meet-empty b);
  integers = λ c h b. rw (meet-integers c b) (integers_step c h (out-Body b));
  members = λ xs h b. rw (meet-members xs b) (members_step xs h (out-Body b));
  pairs = λ a c p q h b. rw (meet-pairs a c b) (pairs_step a c p q h (out-Body b));
  sets = λ h b. rw (meet-sets b) (sets_step h (out-Body b));
})
