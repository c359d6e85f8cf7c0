-- The merges of ascending lists, as the code takes them step by step. They are a means of proof: the
-- contracts of the operators say what their results are.
use Rattle.std.specs.Prelude.{Bool, true, false, not, if◌then◌else◌, cond, List, [], ◌∷◌, ◌++◌, Option, Some, None}
use Rattle.std.specs.Ordering.{is_eq}
use Rattle.eb_value.specs.declared.value.Value.{Value}
use Rattle.eb_value.specs.declared.value.Form.TheOpen as val
use Rattle.eb_value.specs.declared.merges.Key.{Key}
use Rattle.eb_value.specs.declared.merges.Key.TheVariants.{Itself, First}
use Rattle.eb_value.specs.Values.{Layer, layer, compare, is_less}

abbrev pub first_in : Layer → Option Value
first_in (val.Int n) = None
first_in (val.Bool b) = None
first_in (val.Atom s k) = None
first_in (val.Pair a b) = Some a
first_in (val.Set xs) = None

abbrev pub second_in : Layer → Option Value
second_in (val.Int n) = None
second_in (val.Bool b) = None
second_in (val.Atom s k) = None
second_in (val.Pair a b) = Some b
second_in (val.Set xs) = None

-- the first and the second of a pair
abbrev pub first_of : Value → Option Value
first_of v = first_in (layer v)

abbrev pub second_of : Value → Option Value
second_of v = second_in (layer v)

abbrev pub same_key : Option Value → Option Value → Bool
same_key None o = false
same_key (Some a) None = false
same_key (Some a) (Some b) = is_eq (compare a b)

abbrev pub key_of : Key → Value → Option Value
key_of Itself v = Some v
key_of First v = first_of v

-- the values below v with which a list begins, and the others
abbrev pub below : Value → List Value → List Value
below v [] = []
below v (x ∷ xs) = if is_less (compare x v) then (x ∷ below v xs) else []

abbrev pub from_value : Value → List Value → List Value
from_value v [] = []
from_value v (x ∷ xs) = if is_less (compare x v) then from_value v xs else (x ∷ xs)

abbrev pub begins_with : Value → List Value → Bool
begins_with v [] = false
begins_with v (x ∷ xs) = is_eq (compare x v)

-- a list without v at its front
abbrev pub after_value : Value → List Value → List Value
after_value v [] = []
after_value v (x ∷ xs) = if is_eq (compare x v) then xs else (x ∷ xs)

abbrev pub merged : List Value → List Value → List Value
merged [] ys = ys
merged (x ∷ xs) ys = below x ys ++ (x ∷ merged xs (after_value x (from_value x ys)))

abbrev pub rest_at : Option Value → List Value → List Value
rest_at None rest = rest
rest_at (Some k) rest = from_value k rest

abbrev pub passes : Bool → Option Value → List Value → Bool
passes keep None rest = false
passes true (Some k) rest = begins_with k rest
passes false (Some k) rest = not (begins_with k rest)

-- the values whose key stands in an ascending list, or those whose key does not
abbrev pub kept : (Value → Option Value) → Bool → List Value → List Value → List Value
kept key keep [] rest = []
kept key keep (v ∷ vs) rest =
    cond (passes keep (key v) (rest_at (key v) rest)) (v ∷ kept key keep vs (rest_at (key v) rest)) (kept key keep vs (rest_at (key v) rest))
