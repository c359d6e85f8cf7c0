-- The tests of values: relations of two, what has a value as a member, arrows, partitions.
use Rattle.std.specs.Prelude.{Bool, true, false, not, ◌&&◌, List, [], ◌∷◌, map, Option, Some, None, option_map, ℤ, pos, int_le, int_lt}
use Rattle.std.specs.List.{list_all}
use Rattle.eb_syntax.specs.declared.ast.Operator.{Operator}
use Rattle.eb_syntax.specs.declared.ast.Operator.TheVariants as op
use Rattle.operator_kinds.specs.Operators.{is_total, is_surjective, is_function, is_injection}
use Rattle.eb_value.specs.declared.value.Value.{Value}
use Rattle.eb_value.specs.declared.value.Form.TheOpen as val
use Rattle.eb_value.specs.Values.{Layer, layer, set}
use Rattle.eb_value.specs.Comprehensions as sets
use Rattle.eb_value.specs.Comprehensions.{Maplet, members, maplet_in, same}
use Rattle.eb_term.specs.declared.operators.Infinite.{Infinite}
use Rattle.eb_term.specs.declared.operators.Infinite.TheVariants as infinite
use Rattle.eb_term.specs.declared.operators.Side.{Side}
use Rattle.eb_term.specs.declared.operators.Side.TheVariants as side
use Rattle.eb_operations.specs.declared.truth3.Truth3.{Truth3}
use Rattle.eb_operations.specs.declared.truth3.Truth3.TheVariants.{Undefined}
use Rattle.eb_operations.specs.Truths.{tested}
use Rattle.eb_operations.specs.Arithmetic.{int_of}
use Rattle.eb_operations.specs.Operations.{Slot, with_ints}

abbrev pub has_value : Slot → Value → Bool
has_value None v = false
has_value (Some s) v = sets.has (members s) v

-- the value is that of F; a form has none
abbrev pub is_value_of : Slot → Value → Bool
is_value_of None v = false
is_value_of (Some w) v = same v w

-- the test of an expression's value, to the left of something that is given
abbrev pub where_given : Bool → (Value → Bool) → Slot → Truth3
where_given false test a = Undefined
where_given true test a = tested (option_map test a)

-- relations of two values
abbrev pub test_by : Operator → Value → Value → Option Bool
test_by op.Equal v w = Some (same v w)
test_by op.Unequal v w = Some (not (same v w))
test_by op.Less v w = with_ints (λ m n. Some (int_lt m n)) v w
test_by op.AtMost v w = with_ints (λ m n. Some (int_le m n)) v w
test_by op.Greater v w = with_ints (λ m n. Some (int_lt n m)) v w
test_by op.AtLeast v w = with_ints (λ m n. Some (int_le n m)) v w
test_by _ v w = None

-- partition(E, E1, ..): E is the union of the others, of which no two share a member
abbrev pub are_disjoint : List (List Value) → Bool
are_disjoint [] = true
are_disjoint (s ∷ ss) = list_all (λ t. list_all (λ v. not (sets.has t v)) s) ss && are_disjoint ss

abbrev pub is_partition : List Value → Bool
is_partition [] = false
is_partition (v ∷ vs) = same v (set (sets.union_of (map members vs))) && are_disjoint (map members vs)

abbrev pub is_set_layer : Layer → Bool
is_set_layer (val.Set xs) = true
is_set_layer _ = false

abbrev pub is_set : Value → Bool
is_set v = is_set_layer (layer v)

abbrev pub is_empty : List Value → Bool
is_empty [] = true
is_empty (v ∷ vs) = false

abbrev pub is_nonempty_set : Value → Bool
is_nonempty_set v = is_set v && not (is_empty (members v))

abbrev pub int_passes : (ℤ → Bool) → Option ℤ → Bool
int_passes test None = false
int_passes test (Some n) = test n

-- INT, NAT, NAT1
abbrev pub infinite_has : Infinite → Value → Bool
infinite_has infinite.Integers v = int_passes (λ n. true) (int_of v)
infinite_has infinite.Naturals v = int_passes (λ n. int_le (pos 0) n) (int_of v)
infinite_has infinite.PositiveNaturals v = int_passes (λ n. int_le (pos 1) n) (int_of v)

abbrev pub maplet_passes : (Maplet → Bool) → Option Maplet → Bool
maplet_passes test None = false
maplet_passes test (Some m) = test m

-- the value is a pair
abbrev pub is_pair : Value → Bool
is_pair v = maplet_passes (λ m. true) (maplet_in (layer v))

-- the value is a set of pairs
abbrev pub is_relation : Value → Bool
is_relation v = is_set v && list_all is_pair (members v)

-- where it is asked, the test holds
abbrev pub if_asked : Bool → Bool → Bool
if_asked true test = test
if_asked false test = true

abbrev pub is_power : Bool → Value → Bool
is_power false v = is_set v
is_power true v = is_nonempty_set v

-- a relation, and functional as the arrow asks
abbrev pub is_arrow_in : Operator → Value → Bool
is_arrow_in arrow v = is_relation v && if_asked (is_function arrow) (sets.is_functional (members v)) && if_asked (is_injection arrow) (sets.is_functional (sets.inverse (members v)))

-- all of a side is asked
abbrev pub is_whole : Side → Operator → Bool
is_whole side.First arrow = is_total arrow
is_whole side.Second arrow = is_surjective arrow
