-- Identifiers of pairs.
use Rattle.std.proofs.Common.{◌≡◌, ◌∙◌, refl, sym, ap, ap₂, Bool, true, false, List, [], ◌∷◌, ◌++◌, map, Option, Some, None, append_assoc}
use Rattle.std.proofs.lemmas.List.{map-append}
use Rattle.eb_syntax.specs.declared.ast.Operator.{Operator}
use Rattle.eb_syntax.specs.declared.ast.Operator.TheVariants as op
use Rattle.eb_term.specs.declared.operators.Side.{Side}
use Rattle.eb_term.specs.declared.operators.Side.TheVariants as side
use Rattle.eb_lowering.specs.declared.around.Leaf.{Leaf}
use Rattle.eb_lowering.specs.Anchors.{below, paired}
use Rattle.eb_lowering.specs.Lowering as spec
use Rattle.eb_lowering.specs.steps.Anchoring.{Writes, beyond, is_maplet}

-- the path of a part of a pair
beyond_below : (path : List Side) (s : Side) (ls : List Leaf) → map (beyond path) (map (below s) ls) ≡ map (beyond (path ++ s ∷ [])) ls
beyond_below path s [] = refl
beyond_below path s (l ∷ ls) = ap₂ (λ p more. record { number = l.number; path = p } ∷ more) (sym (append_assoc path (s ∷ []) l.path)) (beyond_below path s ls)

both_sides : (path : List Side) (old mid new xs ys : List Leaf)
    → mid ≡ old ++ map (beyond (path ++ side.First ∷ [])) xs → new ≡ mid ++ map (beyond (path ++ side.Second ∷ [])) ys
    → new ≡ old ++ map (beyond path) (map (below side.First) xs ++ map (below side.Second) ys)
both_sides path old mid new xs ys h k =
    k ∙ ap (λ z. z ++ map (beyond (path ++ side.Second ∷ [])) ys) h ∙ append_assoc old _ _
    ∙ ap₂ (λ a b. old ++ (a ++ b)) (sym (beyond_below path side.First xs)) (sym (beyond_below path side.Second ys))
    ∙ ap (λ z. old ++ z) (sym (map-append (beyond path) (map (below side.First) xs) (map (below side.Second) ys)))

-- the pair is made of identifiers where its second part is, if the first one is
pub pair_writes : (old mid new : List Leaf) (path : List Side) (fs ss : Option (List Leaf)) (is_made : Bool)
    → Writes old mid (path ++ side.First ∷ []) true fs → Writes mid new (path ++ side.Second ∷ []) is_made ss → Writes old new path is_made (paired fs ss)
pair_writes old mid new path None ss b h k = absurd h
pair_writes old mid new path (Some xs) None true h k = absurd k
pair_writes old mid new path (Some xs) (Some ys) true h k = both_sides path old mid new xs ys h k
pair_writes old mid new path (Some xs) None false h k = refl
pair_writes old mid new path (Some xs) (Some ys) false h k = absurd (cc)

pub not_written : (old new : List Leaf) (path : List Side) (is_made : Bool) (o : Option (List Leaf)) → is_made ≡ false → Writes old new path is_made o → o ≡ None
not_written old new path true o e h = absurd (cc)
not_written old new path false o e h = h

pub no_pair : (fs ss : Option (List Leaf)) → fs ≡ None → paired fs ss ≡ None
no_pair None ss e = refl
no_pair (Some xs) ss e = absurd (cc)

-- of two parts by `|->`
pub of_maplet : (o : Operator) (a b : spec.Lowered) → is_maplet o ≡ true → spec.leaves_by o a b ≡ paired a.leaves b.leaves
of_maplet op.MapsTo a b e = refl
of_maplet o a b e = absurd (cc)

pub of_other : (o : Operator) (a b : spec.Lowered) → is_maplet o ≡ false → spec.leaves_by o a b ≡ None
of_other op.MapsTo a b e = absurd (cc)
of_other o a b e = refl

beyond_nothing : (ls : List Leaf) → map (beyond []) ls ≡ ls
beyond_nothing [] = refl
beyond_nothing (l ∷ ls) = ap (λ more. l ∷ more) (beyond_nothing ls)

pub all_written : (new : List Leaf) (o : Option (List Leaf)) → Writes [] new [] true o → Some new ≡ o
all_written new None h = absurd h
all_written new (Some ls) h = ap Some (h ∙ beyond_nothing ls)
