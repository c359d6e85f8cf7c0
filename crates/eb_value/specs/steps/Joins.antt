-- The steps by which the code goes over relations. They are a means of proof: the contracts of the
-- operators say what their results are.
use Rattle.std.specs.Prelude.{◌≡◌, Bool, true, false, not, ◌&&◌, if◌then◌else◌, filter, List, [], ◌∷◌, Option, Some, None}
use Rattle.std.specs.List.{Contains, filter_map, flat_map}
use Rattle.std.specs.Ordering.{is_eq}
use Rattle.std.specs.declared.cmp.Ordering.{Ordering}
use Rattle.std.specs.declared.cmp.Ordering.TheVariants.{Less, Greater}
use Rattle.eb_value.specs.declared.value.Value.{Value}
use Rattle.eb_value.specs.declared.value.Form.TheOpen as val
use Rattle.eb_value.specs.declared.relations.Part.{Part}
use Rattle.eb_value.specs.declared.relations.Part.TheVariants as part
use Rattle.eb_value.specs.declared.products.Join.{Join}
use Rattle.eb_value.specs.declared.products.Join.TheVariants as join
use Rattle.eb_value.specs.Relations.{Relates}
use Rattle.eb_value.specs.Comprehensions.{has}
use Rattle.eb_value.specs.Values.{Layer, layer, compare, pair}
use Rattle.eb_value.specs.steps.Merges.{first_of, second_of, same_key}

abbrev pub tests : Bool → List Value → Option Value → Bool
tests keep s None = false
tests true s (Some y) = has s y
tests false s (Some y) = not (has s y)

abbrev pub swap_in : Layer → Option Value
swap_in (val.Int n) = None
swap_in (val.Bool b) = None
swap_in (val.Atom s k) = None
swap_in (val.Pair a b) = Some (pair b a)
swap_in (val.Set xs) = None

abbrev pub part_of : Part → Value → Option Value
part_of part.First v = first_of v
part_of part.Second v = second_of v
part_of part.Swapped v = swap_in (layer v)

-- where a value stands against the pairs with the first k
abbrev pub side_in : Value → Layer → Ordering
side_in k (val.Int n) = Less
side_in k (val.Bool b) = Less
side_in k (val.Atom s n) = Less
side_in k (val.Pair a b) = compare a k
side_in k (val.Set xs) = Greater

abbrev pub side : Value → Value → Ordering
side k v = side_in k (layer v)

-- the pairs with the first k
abbrev pub images : Value → List Value → List Value
images k s = filter (λ v. is_eq (side k v)) s

abbrev pub join_of : Join → Value → Value → Value → Value → Value
join_of join.Direct x y u z = pair x (pair y z)
join_of join.Parallel x y u z = pair (pair x u) (pair y z)

abbrev pub partners : Join → Value → Value → List Value → List Value
partners join.Direct x y s = images x s
partners join.Parallel x y s = s

abbrev pub join_in : Join → Value → Value → Layer → Option Value
join_in j x y (val.Int n) = None
join_in j x y (val.Bool b) = None
join_in j x y (val.Atom s n) = None
join_in j x y (val.Pair u z) = Some (join_of j x y u z)
join_in j x y (val.Set xs) = None

abbrev pub join_with : Join → Value → Value → Value → Option Value
join_with j x y w = join_in j x y (layer w)

abbrev pub joins_in : Join → List Value → Layer → List Value
joins_in j s (val.Int n) = []
joins_in j s (val.Bool b) = []
joins_in j s (val.Atom t n) = []
joins_in j s (val.Pair x y) = filter_map (join_with j x y) (partners j x y s)
joins_in j s (val.Set xs) = []

abbrev pub joins : Join → List Value → List Value → List Value
joins j r s = flat_map (λ v. joins_in j s (layer v)) r

-- no two neighbours have one first
abbrev pub is_functional : List Value → Bool
is_functional [] = true
is_functional (v ∷ []) = true
is_functional (v ∷ w ∷ ws) = not (same_key (first_of v) (first_of w)) && is_functional (w ∷ ws)

abbrev pub second_of_front : List Value → Option Value
second_of_front [] = None
second_of_front (v ∷ vs) = second_of v

abbrev pub applied : List Value → Value → Option Value
applied f x = if is_functional f then second_of_front (images x f) else None

-- both are pairs with one first
abbrev pub has_first_of : Value → Value → Bool
has_first_of v w = same_key (first_of v) (first_of w)

-- each value of the run has the first of v
abbrev pub HaveFirstOf : Value → List Value → Type 0
HaveFirstOf v run = (w : Value) → Contains run w → first_of w ≡ first_of v

-- the seconds of the pairs whose first is the second of a pair
abbrev pub ends_behind : List Value → Option Value → List Value
ends_behind s None = []
ends_behind s (Some y) = filter_map second_of (images y s)

abbrev pub ends : List Value → List Value → List Value
ends s run = flat_map (λ v. ends_behind s (second_of v)) run

-- z is the second of a pair of s whose first is the second of a pair of the run
abbrev pub InEnds : List Value → List Value → Value → Type 0
InEnds run s z = (x : Value) × (y : Value) × Relates run x y × Relates s y z
