-- The operators on sets and relations as functions of their members: each is a comprehension over the lists (Abrial, "Modeling
-- in Event-B", 2010; Métayer and Voisin, "The Event-B Mathematical Language", 2009).
use Rattle.std.specs.Prelude.{Bool, true, not, if◌then◌else◌, ◌||◌, List, [], ◌∷◌, ◌++◌, map, filter, Option, Some, None}
use Rattle.std.specs.List.{list_all, list_any, filter_map, flat_map}
use Rattle.std.specs.Ordering.{is_eq, is_lt}
use Rattle.eb_value.specs.declared.value.Value.{Value}
use Rattle.eb_value.specs.declared.value.Form.TheOpen as val
use Rattle.eb_value.specs.Values.{Layer, layer, compare, pair}

-- the two values are one
abbrev pub same : Value → Value → Bool
same v w = is_eq (compare v w)

-- v ∈ s
abbrev pub has : List Value → Value → Bool
has s v = list_any (same v) s

-- a value put into an ascending list, unless it is there
abbrev pub insert : Value → List Value → List Value
insert v [] = v ∷ []
insert v (w ∷ ws) = if is_lt (compare v w) then (v ∷ w ∷ ws) else (if same v w then (w ∷ ws) else (w ∷ insert v ws))

-- the set of the values in a list: ascending, each once
abbrev pub set_of : List Value → List Value
set_of [] = []
set_of (v ∷ vs) = insert v (set_of vs)

abbrev pub members_in : Layer → List Value
members_in (val.Set xs) = xs
members_in _ = []

-- the members of a set; another value has none
abbrev pub members : Value → List Value
members v = members_in (layer v)

-- x ↦ y, as the two values
pub record Maplet : Type 0 where
  pub first : Value
  pub second : Value

abbrev pub maplet_in : Layer → Option Maplet
maplet_in (val.Pair x y) = Some (record { first = x; second = y })
maplet_in _ = None

-- the maplets of a relation; a member that is no pair counts for nothing
abbrev pub maplets : List Value → List Maplet
maplets r = filter_map (λ v. maplet_in (layer v)) r

-- {E | x ↦ y ∈ r}
abbrev pub of_maplets : (Maplet → Value) → List Value → List Value
of_maplets E r = set_of (map E (maplets r))

-- {x ↦ y | x ↦ y ∈ r ∧ P}
abbrev pub maplets_with : (Maplet → Bool) → List Value → List Value
maplets_with P r = set_of (map (λ m. pair m.first m.second) (filter P (maplets r)))

-- {E | x ↦ y ∈ r ∧ u ↦ z ∈ s ∧ P}
abbrev pub of_two : (Maplet → Maplet → Bool) → (Maplet → Maplet → Value) → List Value → List Value → List Value
of_two P E r s = set_of (flat_map (λ m. map (E m) (filter (P m) (maplets s))) (maplets r))

-- a ∪ b
abbrev pub union : List Value → List Value → List Value
union a b = set_of (a ++ b)

-- a ∩ b = {v ∈ a | v ∈ b}
abbrev pub meet : List Value → List Value → List Value
meet a b = set_of (filter (has b) a)

-- a ∖ b = {v ∈ a | v ∉ b}
abbrev pub minus : List Value → List Value → List Value
minus a b = set_of (filter (λ v. not (has b v)) a)

-- a × b = {x ↦ y | x ∈ a ∧ y ∈ b}
abbrev pub cross : List Value → List Value → List Value
cross a b = set_of (flat_map (λ x. map (pair x) b) a)

-- dom(r) = {x | x ↦ y ∈ r}
abbrev pub domain : List Value → List Value
domain = of_maplets (λ m. m.first)

-- ran(r) = {y | x ↦ y ∈ r}
abbrev pub range : List Value → List Value
range = of_maplets (λ m. m.second)

-- r∼ = {y ↦ x | x ↦ y ∈ r}
abbrev pub inverse : List Value → List Value
inverse = of_maplets (λ m. pair m.second m.first)

-- s ◁ r = {x ↦ y ∈ r | x ∈ s}
abbrev pub dom_keep : List Value → List Value → List Value
dom_keep s = maplets_with (λ m. has s m.first)

-- s ⩤ r = {x ↦ y ∈ r | x ∉ s}
abbrev pub dom_drop : List Value → List Value → List Value
dom_drop s = maplets_with (λ m. not (has s m.first))

-- r ▷ s = {x ↦ y ∈ r | y ∈ s}
abbrev pub ran_keep : List Value → List Value → List Value
ran_keep r s = maplets_with (λ m. has s m.second) r

-- r ⩥ s = {x ↦ y ∈ r | y ∉ s}
abbrev pub ran_drop : List Value → List Value → List Value
ran_drop r s = maplets_with (λ m. not (has s m.second)) r

-- r[s] = ran(s ◁ r)
abbrev pub image : List Value → List Value → List Value
image r s = range (dom_keep s r)

-- f overridden by g: g, and f at the firsts outside dom(g)
abbrev pub overlay : List Value → List Value → List Value
overlay f g = union (dom_drop (domain g) f) g

-- r ; s = {x ↦ z | x ↦ y ∈ r ∧ y ↦ z ∈ s}
abbrev pub compose : List Value → List Value → List Value
compose = of_two (λ m n. same m.second n.first) (λ m n. pair m.first n.second)

-- r ⊗ s = {x ↦ (y ↦ z) | x ↦ y ∈ r ∧ x ↦ z ∈ s}
abbrev pub direct : List Value → List Value → List Value
direct = of_two (λ m n. same m.first n.first) (λ m n. pair m.first (pair m.second n.second))

-- r ∥ s = {(x ↦ u) ↦ (y ↦ z) | x ↦ y ∈ r ∧ u ↦ z ∈ s}
abbrev pub parallel : List Value → List Value → List Value
parallel = of_two (λ m n. true) (λ m n. pair (pair m.first n.first) (pair m.second n.second))

-- r relates no value to two different ones
abbrev pub is_functional : List Value → Bool
is_functional r = list_all (λ m. list_all (λ n. not (same m.first n.first) || same m.second n.second) (maplets r)) (maplets r)

abbrev pub first_of : List Value → Option Value
first_of [] = None
first_of (v ∷ vs) = Some v

-- f(x), where f is functional and x is in its domain
abbrev pub apply : List Value → Value → Option Value
apply f x = if is_functional f then first_of (image f (x ∷ [])) else None

-- ⋃ of a list of sets
abbrev pub union_of : List (List Value) → List Value
union_of sets = set_of (flat_map (λ s. s) sets)

-- ⋂ of a list of sets, which has one at least
abbrev pub meet_of : List (List Value) → Option (List Value)
meet_of [] = None
meet_of (s ∷ sets) = Some (set_of (filter (λ v. list_all (λ t. has t v) sets) s))
