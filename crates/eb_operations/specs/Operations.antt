-- The values of operators, by the values of their parts, row by row (Abrial, "Modeling in Event-B", 2010; Métayer and Voisin,
-- "The Event-B Mathematical Language", 2009).
use Rattle.std.specs.Prelude.{Bool, true, false, if◌then◌else◌, List, [], ◌∷◌, map, length, ◌-◌, Option, Some, None, option_map, option_and_then, slice_get, ℤ, pos, ◌+ℤ◌, ◌-ℤ◌, ◌*ℤ◌}
use Rattle.eb_syntax.specs.declared.ast.Operator.{Operator}
use Rattle.eb_syntax.specs.declared.ast.Operator.TheVariants as op
use Rattle.eb_syntax.specs.declared.ast.Call.{Call}
use Rattle.eb_syntax.specs.declared.ast.Call.TheVariants as call
use Rattle.eb_value.specs.declared.value.Value.{Value}
use Rattle.eb_value.specs.declared.value.Form.TheOpen as val
use Rattle.eb_value.specs.Values.{Layer, layer, truth, pair, set}
use Rattle.eb_value.specs.Comprehensions as sets
use Rattle.eb_value.specs.Comprehensions.{Maplet, members, maplet_in}
use Rattle.eb_term.specs.declared.operators.Side.{Side}
use Rattle.eb_term.specs.declared.operators.Side.TheVariants as side
use Rattle.eb_operations.specs.declared.truth3.Truth3.{Truth3}
use Rattle.eb_operations.specs.declared.truth3.Truth3.TheVariants.{True, False, Undefined}
use Rattle.eb_operations.specs.Arithmetic.{int_of, defined_int, quotient, remainder, power, interval}

-- A value, or none where it is Undefined.
abbrev pub Slot : Type 0
Slot = Option Value

abbrev pub is_value : Slot → Bool
is_value None = false
is_value (Some v) = true

-- the operation on two values, where both are defined
abbrev pub with_two : {A : Type 0} → (Value → Value → Option A) → Slot → Slot → Option A
with_two f a b = option_and_then (λ v. option_and_then (λ w. f v w) b) a

-- the operation on two integers
abbrev pub with_ints : {A : Type 0} → (ℤ → ℤ → Option A) → Value → Value → Option A
with_ints f v w = option_and_then (λ m. option_and_then (λ n. f m n) (int_of w)) (int_of v)

abbrev pub set_in : Layer → Option (List Value)
set_in (val.Set xs) = Some xs
set_in _ = None

-- the operation on a set
abbrev pub with_set : {A : Type 0} → (List Value → Option A) → Value → Option A
with_set f v = option_and_then f (set_in (layer v))

-- the operation on two sets
abbrev pub with_sets : {A : Type 0} → (List Value → List Value → Option A) → Value → Value → Option A
with_sets f v w = with_set (λ s. with_set (λ t. f s t) w) v

-- operations on integers
abbrev pub int_by : Operator → ℤ → ℤ → Option Value
int_by op.Plus m n = defined_int (m +ℤ n)
int_by op.Minus m n = defined_int (m -ℤ n)
int_by op.Times m n = defined_int (m *ℤ n)
int_by op.Divide m n = quotient m n
int_by op.Modulo m n = remainder m n
int_by op.Power m n = power m n
int_by op.UpTo m n = Some (set (interval m n))
int_by _ m n = None

abbrev pub is_arithmetic : Operator → Bool
is_arithmetic op.Plus = true
is_arithmetic op.Minus = true
is_arithmetic op.Times = true
is_arithmetic op.Divide = true
is_arithmetic op.Modulo = true
is_arithmetic op.Power = true
is_arithmetic op.UpTo = true
is_arithmetic _ = false

-- operations on sets and relations
abbrev pub set_by : Operator → List Value → List Value → Option (List Value)
set_by op.Union s t = Some (sets.union s t)
set_by op.Intersection s t = Some (sets.meet s t)
set_by op.Difference s t = Some (sets.minus s t)
set_by op.Product s t = Some (sets.cross s t)
set_by op.ForwardComposition r s = Some (sets.compose r s)
set_by op.BackwardComposition r s = Some (sets.compose s r)
set_by op.DomainRestriction s r = Some (sets.dom_keep s r)
set_by op.DomainSubtraction s r = Some (sets.dom_drop s r)
set_by op.RangeRestriction r s = Some (sets.ran_keep r s)
set_by op.RangeSubtraction r s = Some (sets.ran_drop r s)
set_by op.Override f g = Some (sets.overlay f g)
set_by op.DirectProduct r s = Some (sets.direct r s)
set_by op.ParallelProduct r s = Some (sets.parallel r s)
set_by op.Image r s = Some (sets.image r s)
set_by _ s t = None

-- the value of an operator on two expressions; a relation and a connective have none
abbrev pub value_by : Operator → Value → Value → Slot
value_by op.MapsTo v w = Some (pair v w)
value_by op.Apply v w = with_set (λ f. sets.apply f w) v
value_by o v w = if is_arithmetic o then with_ints (int_by o) v w else with_sets (λ s t. option_map set (set_by o s t)) v w

-- the last of a list
abbrev pub last_of : List Value → Slot
last_of vs = slice_get vs (length vs - 1)

-- the value of a call on a set. The least member of a set of integers stands first, the greatest last.
abbrev pub call_by : Call → List Value → Slot
call_by call.Cardinality s = defined_int (pos (length s))
call_by call.Minimum s = sets.first_of s
call_by call.Maximum s = last_of s
call_by call.Domain r = Some (set (sets.domain r))
call_by call.Range r = Some (set (sets.range r))
call_by call.GeneralizedUnion s = Some (set (sets.union_of (map members s)))
call_by call.GeneralizedIntersection s = option_map set (sets.meet_of (map members s))
call_by _ s = None

-- bool(P)
abbrev pub bool_of : Truth3 → Slot
bool_of True = Some (truth true)
bool_of False = Some (truth false)
bool_of Undefined = None

abbrev pub part_of_maplet : Side → Maplet → Value
part_of_maplet side.First m = m.first
part_of_maplet side.Second m = m.second

-- a part of a pair
abbrev pub part_of : Side → Value → Slot
part_of s v = option_map (part_of_maplet s) (maplet_in (layer v))

-- a part of the part, and so on
abbrev pub part_at : List Side → Value → Slot
part_at [] v = Some v
part_at (s ∷ path) v = option_and_then (part_at path) (part_of s v)

-- the values of all, where each has one
abbrev pub all_values : List Slot → Option (List Value)
all_values [] = Some []
all_values (None ∷ slots) = None
all_values (Some v ∷ slots) = option_map (λ vs. v ∷ vs) (all_values slots)

-- the union of the sets, where each is defined
abbrev pub collected : List Slot → Slot
collected slots = option_map (λ vs. set (sets.union_of (map members vs))) (all_values slots)

abbrev pub empty_set : Value
empty_set = set []

-- the set where the predicate is True, the empty set where it is False
abbrev pub chosen : Truth3 → Slot → Slot
chosen True s = s
chosen False s = Some empty_set
chosen Undefined s = None

abbrev pub maplet_of_projection : Side → Value → Value → Value
maplet_of_projection side.First x y = pair (pair x y) x
maplet_of_projection side.Second x y = pair (pair x y) y

-- the domain, or the range
abbrev pub set_of_side : Side → Value → List Value
set_of_side side.First v = sets.domain (members v)
set_of_side side.Second v = sets.range (members v)
