-- The product of two sets, by its pairs.
use Rattle.std.proofs.Common.{◌≡◌, ◌∙◌, Bool, true, false, ◌&&◌, ◌||◌, if◌then◌else◌, List, [], ◌∷◌, ◌++◌, map, Option, Some, None, refl, sym, ap, ap₂, rules}
use Rattle.std.specs.List.{flat_map}
use Rattle.std.specs.Ordering.{is_eq, is_lt, ordering_then}
use Rattle.std.specs.declared.cmp.Ordering.{Ordering}
use Rattle.std.specs.declared.cmp.Ordering.TheVariants.{Less, Equal, Greater}
use Rattle.eb_value.specs.declared.value.Value.{Value, fold_out-Value}
use Rattle.eb_value.specs.declared.value.Value as value_module
use Rattle.eb_value.specs.declared.value.Form.TheOpen as val
use Rattle.eb_value.specs.Values.{Layer, layer, pair, compare}
use Rattle.eb_value.specs.Comprehensions.{Maplet, maplet_in, same, has, insert, set_of, cross}
use Rattle.eb_meaning.specs.Meaning.{maplet_passes}
use Rattle.eb_narrow.proofs.Hypotheses.{Laws}
use Rattle.eb_narrow.proofs.Views.{same_so}

-- ---- a list and its set

or_swap : (a b c : Bool) → (b || (a || c)) ≡ (a || (b || c))
or_swap true true c = refl
or_swap true false c = refl
or_swap false b c = refl

pub or_assoc : (a b c : Bool) → ((a || b) || c) ≡ (a || (b || c))
or_assoc true b c = refl
or_assoc false b c = refl

or_twice : (a c : Bool) → (a || c) ≡ (a || (a || c))
or_twice true c = refl
or_twice false c = refl

same_by : Laws → (u v w : Value) → v ≡ w → same u v ≡ same u w
same_by laws u v w e = ap (same u) e

insert_if : Laws → (w z : Value) (zs : List Value) (v : Value) (lt eq : Bool) → eq ≡ same w z → has (insert w zs) v ≡ (same v w || has zs v)
    → has (if lt then (w ∷ z ∷ zs) else (if eq then (z ∷ zs) else (z ∷ insert w zs))) v ≡ (same v w || (same v z || has zs v))
insert_if laws w z zs v true eq e h = refl
insert_if laws w z zs v false true e h = rw (same_by laws v w z (same_so laws w z (sym e))) (or_twice (same v z) (has zs v))
insert_if laws w z zs v false false e h = ap (λ b. same v z || b) h ∙ or_swap (same v w) (same v z) (has zs v)

has_insert : Laws → (w : Value) (zs : List Value) (v : Value) → has (insert w zs) v ≡ (same v w || has zs v)
has_insert laws w [] v = refl
has_insert laws w (z ∷ zs) v = insert_if laws w z zs v (is_lt (compare w z)) (same w z) refl (has_insert laws w zs v)

pub has_set_of : Laws → (zs : List Value) (v : Value) → has (set_of zs) v ≡ has zs v
has_set_of laws [] v = refl
has_set_of laws (z ∷ zs) v = has_insert laws z (set_of zs) v ∙ ap (λ b. same v z || b) (has_set_of laws zs v)

pub has_joined : (xs ys : List Value) (v : Value) → has (xs ++ ys) v ≡ (has xs v || has ys v)
has_joined [] ys v = refl
has_joined (x ∷ xs) ys v = ap (λ b. same v x || b) (has_joined xs ys v) ∙ sym (or_assoc (same v x) (has xs v) (has ys v))

-- ---- pairs

both_equal : (a b : Ordering) → is_eq (ordering_then a b) ≡ (is_eq a && is_eq b)
both_equal Less b = refl
both_equal Equal b = refl
both_equal Greater b = refl

pair_against : (v p q x y : Value) → layer v ≡ val.Pair p q → compare v (pair x y) ≡ ordering_then (compare p x) (compare q y)
pair_against v p q x y h = search (rules, fold_out-Value, value_module.the_lemmas, h)

same_pair_by : (v x y : Value) (z : Layer) → layer v ≡ z → same v (pair x y) ≡ maplet_passes (λ m. same m.first x && same m.second y) (maplet_in z)
same_pair_by v x y (val.Int n) h = search (rules, fold_out-Value, value_module.the_lemmas, h)
same_pair_by v x y (val.Bool b) h = search (rules, fold_out-Value, value_module.the_lemmas, h)
same_pair_by v x y (val.Atom s n) h = search (rules, fold_out-Value, value_module.the_lemmas, h)
same_pair_by v x y (val.Pair p q) h = ap is_eq (pair_against v p q x y h) ∙ both_equal (compare p x) (compare q y)
same_pair_by v x y (val.Set xs) h = search (rules, fold_out-Value, value_module.the_lemmas, h)

same_pair : (v x y : Value) → same v (pair x y) ≡ maplet_passes (λ m. same m.first x && same m.second y) (maplet_in (layer v))
same_pair v x y = same_pair_by v x y (layer v) refl

and_or : (a b c : Bool) → ((a && b) || (a && c)) ≡ (a && (b || c))
and_or true b c = refl
and_or false b c = refl

one_or_more : (x y : Value) (ys : List Value) (o : Option Maplet)
    → (maplet_passes (λ m. same m.first x && same m.second y) o || maplet_passes (λ m. same m.first x && has ys m.second) o) ≡ maplet_passes (λ m. same m.first x && has (y ∷ ys) m.second) o
one_or_more x y ys None = refl
one_or_more x y ys (Some m) = and_or (same m.first x) (same m.second y) (has ys m.second)

no_second : (x : Value) (o : Option Maplet) → false ≡ maplet_passes (λ m. same m.first x && has [] m.second) o
no_second x None = refl
no_second x (Some m) = none (same m.first x)
  where
    none : (b : Bool) → false ≡ (b && false)
    none true = refl
    none false = refl

has_pairs : (x : Value) (ys : List Value) (v : Value) → has (map (pair x) ys) v ≡ maplet_passes (λ m. same m.first x && has ys m.second) (maplet_in (layer v))
has_pairs x [] v = no_second x (maplet_in (layer v))
has_pairs x (y ∷ ys) v = ap₂ (λ a b. a || b) (same_pair v x y) (has_pairs x ys v) ∙ one_or_more x y ys (maplet_in (layer v))

or_and : (a b c : Bool) → ((a && c) || (b && c)) ≡ ((a || b) && c)
or_and true true true = refl
or_and true true false = refl
or_and true false true = refl
or_and true false false = refl
or_and false b c = refl

first_or_more : (x : Value) (xs ys : List Value) (o : Option Maplet)
    → (maplet_passes (λ m. same m.first x && has ys m.second) o || maplet_passes (λ m. has xs m.first && has ys m.second) o) ≡ maplet_passes (λ m. has (x ∷ xs) m.first && has ys m.second) o
first_or_more x xs ys None = refl
first_or_more x xs ys (Some m) = or_and (same m.first x) (has xs m.first) (has ys m.second)

no_first : (ys : List Value) (o : Option Maplet) → false ≡ maplet_passes (λ m. has [] m.first && has ys m.second) o
no_first ys None = refl
no_first ys (Some m) = refl

has_all_pairs : (xs ys : List Value) (v : Value) → has (flat_map (λ x. map (pair x) ys) xs) v ≡ maplet_passes (λ m. has xs m.first && has ys m.second) (maplet_in (layer v))
has_all_pairs [] ys v = no_first ys (maplet_in (layer v))
has_all_pairs (x ∷ xs) ys v =
    has_joined (map (pair x) ys) (flat_map (λ x. map (pair x) ys) xs) v
    ∙ (ap₂ (λ a b. a || b) (has_pairs x ys v) (has_all_pairs xs ys v) ∙ first_or_more x xs ys (maplet_in (layer v)))

-- a pair of a member of each
pub has_cross : Laws → (xs ys : List Value) (v : Value) → has (cross xs ys) v ≡ maplet_passes (λ m. has xs m.first && has ys m.second) (maplet_in (layer v))
has_cross laws xs ys v = has_set_of laws (flat_map (λ x. map (pair x) ys) xs) v ∙ has_all_pairs xs ys v
