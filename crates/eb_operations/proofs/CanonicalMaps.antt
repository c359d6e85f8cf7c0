-- Lists that are made of canonical ones are canonical.
use Rattle.std.proofs.Common.{◌≡◌, refl, List, [], ◌∷◌, ◌++◌, map, Option, Some, None, option_map}
use Rattle.std.specs.List.{flat_map, filter_map, cons_option}
use Rattle.eb_value.specs.declared.value.Value.{Value}
use Rattle.eb_value.specs.Canonical.{IsCanonical, AreCanonical, none, more, pair}
use Rattle.eb_value.specs.Comprehensions.{Maplet, maplet_in}
use Rattle.eb_value.specs.Values as value
use Rattle.eb_term.specs.declared.operators.Side.{Side}
use Rattle.eb_term.specs.declared.operators.Side.TheVariants as side
use Rattle.eb_operations.specs.Operations.{part_of, part_of_maplet, maplet_of_projection}

pub joined : (xs ys : List Value) → AreCanonical xs → AreCanonical ys → AreCanonical (xs ++ ys)
joined [] ys none b = b
joined (x ∷ xs) ys (more c a) b = more c (joined xs ys a b)

pub doubled : (xs : List Value) → AreCanonical xs → AreCanonical (map (λ x. value.pair x x) xs)
doubled [] none = none
doubled (x ∷ xs) (more c a) = more (pair c c) (doubled xs a)

maplets_with : (s : Side) (x : Value) (ys : List Value) → IsCanonical x → AreCanonical ys → AreCanonical (map (maplet_of_projection s x) ys)
maplets_with s x [] p none = none
maplets_with side.First x (y ∷ ys) p (more c a) = more (pair (pair p c) p) (maplets_with side.First x ys p a)
maplets_with side.Second x (y ∷ ys) p (more c a) = more (pair (pair p c) c) (maplets_with side.Second x ys p a)

pub projected : (s : Side) (xs ys : List Value) → AreCanonical xs → AreCanonical ys → AreCanonical (flat_map (λ x. map (maplet_of_projection s x) ys) xs)
projected s [] ys none b = none
projected s (x ∷ xs) ys (more c a) b = joined _ _ (maplets_with s x ys c b) (projected s xs ys a b)

-- what the law of parts says of maplets
abbrev pub MapletLaw : Type 0
MapletLaw = (v : Value) (m : Maplet) → IsCanonical v → maplet_in (value.layer v) ≡ Some m → IsCanonical m.first × IsCanonical m.second

chosen : (s : Side) (m : Maplet) → IsCanonical m.first × IsCanonical m.second → IsCanonical (part_of_maplet s m)
chosen side.First m p = p.0
chosen side.Second m p = p.1

one_more : (s : Side) (v : Value) (o : Option Maplet) (vs : List Value) → IsCanonical v → ((m : Maplet) → o ≡ Some m → IsCanonical m.first × IsCanonical m.second)
    → AreCanonical vs → AreCanonical (cons_option (option_map (part_of_maplet s) o) vs)
one_more s v None vs c law a = a
one_more s v (Some m) vs c law a = more (chosen s m (law m refl)) a

pub sides : MapletLaw → (s : Side) (vs : List Value) → AreCanonical vs → AreCanonical (filter_map (part_of s) vs)
sides law s [] none = none
sides law s (v ∷ vs) (more c a) = one_more s v (maplet_in (value.layer v)) _ c (λ m e. law v m c e) (sides law s vs a)
