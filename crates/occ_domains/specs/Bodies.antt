-- Which values a body has, and bodies in normal form.
use Rattle.std.specs.Prelude.{Bool, true, false, not, ◌&&◌, ◌||◌, if◌then◌else◌, List, [], ◌∷◌, filter, Option, Some, None, ℤ, pos, ◌+ℤ◌, ◌-ℤ◌, int_le}
use Rattle.std.specs.Int.{int_min, int_max}
use Rattle.std.specs.List.{list_all}
use Rattle.std.specs.Ordering.{int_eq}
use Rattle.eb_value.specs.declared.value.Value.{Value}
use Rattle.eb_value.specs.declared.value.Form.{Form-F}
use Rattle.eb_value.specs.declared.value.Form.TheOpen as val
use Rattle.eb_value.specs.Values.{Layer, layer, by_parts, int, truth, atom, pair, is_ascending}
use Rattle.eb_value.specs.Comprehensions.{has as is_among, same}
use Rattle.int_dom.specs.declared.interval.Interval.{Interval}
use Rattle.int_dom.specs.Intervals as interval
use Rattle.occ_domains.specs.declared.body.Body.{Body, Body-F, out-Body, fold-Body}
use Rattle.occ_domains.specs.declared.body.Body.TheOpen as body
use Rattle.occ_domains.specs.declared.body.Body.TheVariants as of

-- FALSE and TRUE and atoms, which lists have alone
abbrev pub is_plain_layer : Layer → Bool
is_plain_layer (val.Bool b) = true
is_plain_layer (val.Atom place number) = true
is_plain_layer _ = false

abbrev pub is_plain : Value → Bool
is_plain v = is_plain_layer (layer v)

abbrev pub has_step : Body-F (Value → Bool) → Value → Layer → Bool
has_step (body.Integers d) v (val.Int n) = int_le d.lo n && int_le n d.hi
has_step (body.Members xs) v y = is_plain_layer y && is_among xs v
has_step (body.Pairs f g) v (val.Pair a b) = f a && g b
has_step body.AllSets v (val.Set xs) = true
has_step _ v y = false

-- The integers of the interval; the truths and atoms of the list; the pairs of a value of each part; all sets.
abbrev pub has : Body → Value → Bool
has = fold-Body (Value → Bool) (λ s v. has_step s v (layer v))

-- by one level of the body and one of the value
abbrev pub has_at : Body-F Body → Value → Layer → Bool
has_at body.Empty v y = false
has_at (body.Integers d) v y = has_step (body.Integers d) v y
has_at (body.Members xs) v y = is_plain_layer y && is_among xs v
has_at (body.Pairs a b) v y = has_step (body.Pairs (has a) (has b)) v y
has_at body.AllSets v y = has_step body.AllSets v y

abbrev pub is_empty_layer : Body-F Body → Bool
is_empty_layer body.Empty = true
is_empty_layer _ = false

-- it is the body without values
abbrev pub is_empty : Body → Bool
is_empty b = is_empty_layer (out-Body b)

-- a list of truths and atoms, ascending, one at least
abbrev pub is_list : List Value → Bool
is_list [] = false
is_list (v ∷ vs) = is_ascending (v ∷ vs) && list_all is_plain (v ∷ vs)

abbrev pub filled_step : Body-F Bool → Bool
filled_step body.Empty = false
filled_step (body.Integers d) = not (interval.is_empty d)
filled_step (body.Members xs) = is_list xs
filled_step (body.Pairs first second) = first && second
filled_step body.AllSets = true

-- in normal form, and with values: each of its intervals has an integer, and each list is one of members
abbrev pub is_filled : Body → Bool
is_filled = fold-Body Bool filled_step

-- in normal form: Empty, or made of what has values alone
abbrev pub is_normal : Body → Bool
is_normal b = is_empty b || is_filled b

-- ---- bodies in normal form, by what they are to have

abbrev pub integers : Interval → Body
integers d = if interval.is_empty d then of.Empty else of.Integers d

abbrev pub members : List Value → Body
members [] = of.Empty
members (v ∷ vs) = of.Members (v ∷ vs)

abbrev pub pairs : Body → Body → Body
pairs a b = if is_empty a || is_empty b then of.Empty else of.Pairs a b

-- the integers of both intervals
abbrev pub common : Interval → Interval → Interval
common c d = record { lo = int_max c.lo d.lo; hi = int_min c.hi d.hi }

abbrev pub meet_step : Body-F (Body → Body) → Body-F Body → Body
meet_step (body.Integers c) (body.Integers d) = integers (common c d)
meet_step (body.Members xs) (body.Members ys) = members (filter (is_among ys) xs)
meet_step (body.Pairs f g) (body.Pairs c d) = pairs (f c) (g d)
meet_step body.AllSets body.AllSets = of.AllSets
meet_step _ _ = of.Empty

-- what two bodies have in common
abbrev pub meet : Body → Body → Body
meet = fold-Body (Body → Body) (λ s b. meet_step s (out-Body b))

-- ---- bodies of one value

abbrev pub single_integer : Interval → Option Value
single_integer d = if interval.is_single d then Some (int d.lo) else None

abbrev pub single_member : List Value → Option Value
single_member (v ∷ []) = Some v
single_member _ = None

abbrev pub single_pair : Option Value → Option Value → Option Value
single_pair (Some a) (Some b) = Some (pair a b)
single_pair _ _ = None

abbrev pub single_step : Body-F (Option Value) → Option Value
single_step (body.Integers d) = single_integer d
single_step (body.Members xs) = single_member xs
single_step (body.Pairs first second) = single_pair first second
single_step _ = None

-- the one value of a body that has just one
abbrev pub single : Body → Option Value
single = fold-Body (Option Value) single_step

abbrev pub exactly_step : Form-F Body Body → Body
exactly_step (val.Int n) = of.Integers (record { lo = n; hi = n })
exactly_step (val.Bool b) = of.Members (truth b ∷ [])
exactly_step (val.Atom place number) = of.Members (atom place number ∷ [])
exactly_step (val.Pair a b) = of.Pairs a b
exactly_step (val.Set xs) = of.AllSets

-- the least body with the value: of a set that is all sets
abbrev pub exactly : Value → Body
exactly = by_parts Body exactly_step

-- ---- a body without a value, as far as a body can be

-- the interval without an integer that is one of its ends
abbrev pub but_for : ℤ → Interval → Interval
but_for n d = if int_eq n d.lo then record { lo = d.lo +ℤ pos 1; hi = d.hi }
    else if int_eq n d.hi then record { lo = d.lo; hi = d.hi -ℤ pos 1 }
    else d

abbrev pub without_number : Interval → Layer → Body
without_number d (val.Int n) = integers (but_for n d)
without_number d _ = of.Integers d

abbrev pub without_integer : Interval → Value → Body
without_integer d v = without_number d (layer v)

abbrev pub is_other : Value → Value → Bool
is_other v w = not (same w v)

abbrev pub without_layer : Body-F Body → Value → Body → Body
without_layer (body.Integers d) v b = without_integer d v
without_layer (body.Members xs) v b = members (filter (is_other v) xs)
without_layer _ v b = b

-- a list without the value, or an interval without one of its ends; every other body as it is
abbrev pub without : Body → Value → Body
without b v = without_layer (out-Body b) v b
