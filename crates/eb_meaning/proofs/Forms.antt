-- Memberships in products and arrows, one side at a time.
use Rattle.std.proofs.Common.{◌≡◌, refl, Bool, true, false, ◌&&◌, if◌then◌else◌, List, [], ◌∷◌, Option, Some, None, option_map}
use Rattle.std.specs.List.{list_all, filter_map, cons_option}
use Rattle.eb_syntax.specs.declared.ast.Operator.{Operator}
use Rattle.eb_value.specs.declared.value.Value.{Value}
use Rattle.eb_value.specs.Comprehensions.{Maplet, members, maplet_in}
use Rattle.eb_value.specs.Comprehensions as sets
use Rattle.eb_value.specs.Values.{layer}
use Rattle.eb_term.specs.declared.operators.Side.TheVariants as side
use Rattle.eb_meaning.specs.Meaning.{Slot, Env, Meaning, is_value, part_of, part_of_maplet, is_pair, is_pair_of, maplet_passes, is_relation, is_related, is_total, is_surjective}
use Rattle.eb_meaning.specs.Meaning as spec
use Rattle.eb_meaning.specs.steps.Evaluating.{has_all, value_has_all, side_covered, IsPlain, both_given}
use Rattle.eb_operations.specs.Operations.{set_of_side}
use Rattle.eb_operations.specs.Tests.{is_arrow_in}

-- one value and the others
sorted : (f g p a b : Bool) → ((f && g) && (p && (a && b))) ≡ (p && ((f && a) && (g && b)))
sorted true true p a b = refl
sorted true false true true b = refl
sorted true false true false b = refl
sorted true false false a b = refl
sorted false g true a b = refl
sorted false g false a b = refl

paired : (env : Env) (F G : Meaning) (o : Option Maplet) (vs : List Value) (p : Bool)
    → (maplet_passes (λ m. F.has env m.first && G.has env m.second) o
    && (p && (list_all (F.has env) (filter_map (part_of side.First) vs) && list_all (G.has env) (filter_map (part_of side.Second) vs))))
    ≡ ((maplet_passes (λ m. true) o && p)
    && (list_all (F.has env) (cons_option (option_map (part_of_maplet side.First) o) (filter_map (part_of side.First) vs))
    && list_all (G.has env) (cons_option (option_map (part_of_maplet side.Second) o) (filter_map (part_of side.Second) vs))))
paired env F G None vs p = refl
paired env F G (Some m) vs p = sorted (F.has env m.first) (G.has env m.second) p _ _

-- pairs of members of F and of G
pub pairs_apart : (env : Env) (F G : Meaning) (vs : List Value)
    → list_all (is_pair_of env F G) vs
    ≡ (list_all is_pair vs && (list_all (F.has env) (filter_map (part_of side.First) vs) && list_all (G.has env) (filter_map (part_of side.Second) vs)))
pairs_apart env F G [] = refl
pairs_apart env F G (v ∷ vs) = rw (pairs_apart env F G vs) (paired env F G (maplet_in (layer v)) vs (list_all is_pair vs))

ordered : (r c d f i p a b : Bool) → ((r && (((c && d) && f) && i)) && (p && (a && b))) ≡ ((((r && f) && i) && p) && ((c && a) && (d && b)))
ordered true true true true true p a b = refl
ordered true true true true false p a b = refl
ordered true true true false i p a b = refl
ordered true true false true true true true b = refl
ordered true true false true true true false b = refl
ordered true true false true true false a b = refl
ordered true true false true false p a b = refl
ordered true true false false i p a b = refl
ordered true false d true true true a b = refl
ordered true false d true true false a b = refl
ordered true false d true false p a b = refl
ordered true false d false i p a b = refl
ordered false c d f i p a b = refl

-- relations of an arrow from F to G
pub arrows_apart : (arrow : Operator) (env : Env) (F G : Meaning) (vs : List Value)
    → list_all (λ v. is_relation v && is_related arrow env F G (members v)) vs
    ≡ (list_all (is_arrow_in arrow) vs && (list_all (λ v. spec.covers (is_total arrow) env F (set_of_side side.First v)) vs
    && list_all (λ v. spec.covers (is_surjective arrow) env G (set_of_side side.Second v)) vs))
arrows_apart arrow env F G [] = refl
arrows_apart arrow env F G (v ∷ vs) = rw (arrows_apart arrow env F G vs)
    (ordered (is_relation v) (spec.covers (is_total arrow) env F (sets.domain (members v))) (spec.covers (is_surjective arrow) env G (sets.range (members v)))
    (spec.if_asked (spec.is_function arrow) (sets.is_functional (members v))) (spec.if_asked (spec.is_injection arrow) (sets.is_functional (sets.inverse (members v)))) _ _ _)

-- where both are given
given_both : (f g : Bool) (test : Bool) (p q : Bool)
    → (if f && g then Some (test && (p && q)) else None) ≡ both_given (if f then Some p else None) (if g then Some q else None) test
given_both true true test p q = refl
given_both true false test p q = refl
given_both false g test p q = refl

all_alike : (f g : Value → Bool) (vs : List Value) → ((v : Value) → f v ≡ g v) → list_all f vs ≡ list_all g vs
all_alike f g [] e = refl
all_alike f g (v ∷ vs) e = rw (e v, all_alike f g vs e) refl

-- F ** G
pub product_has_all : (o : Operator) → spec.is_product o ≡ true → (env : Env) (F G : Meaning) (vs : List Value)
    → has_all (spec.by_operator o F G) env vs
    ≡ both_given (has_all F env (filter_map (part_of side.First) vs)) (has_all G env (filter_map (part_of side.Second) vs)) (list_all is_pair vs)
product_has_all o e env F G vs =
    let h = all_alike ((spec.by_operator o F G).has env) (is_pair_of env F G) vs (λ v. rw e refl) in
    rw (e, h, pairs_apart env F G vs) (given_both (F.is_given env) (G.is_given env) _ _ _)

-- F arrow G
pub arrow_has_all : (o : Operator) → spec.is_product o ≡ false → spec.is_arrow o ≡ true → (env : Env) (F G : Meaning) (vs : List Value)
    → has_all (spec.by_operator o F G) env vs
    ≡ both_given (side_covered o side.First F env vs) (side_covered o side.Second G env vs)
    (list_all (is_arrow_in o) vs)
arrow_has_all o p a env F G vs =
    let h = all_alike ((spec.by_operator o F G).has env) (λ v. is_relation v && is_related o env F G (members v)) vs (λ v. rw (p, a) refl) in
    rw (p, a, h, arrows_apart o env F G vs) (given_both (F.is_given env) (G.is_given env) _ _ _)

plain_all : (slot : Slot) (vs : List Value) → (if is_value slot then Some (list_all (spec.has_value slot) vs) else None) ≡ value_has_all slot vs
plain_all None vs = refl
plain_all (Some s) vs = refl

pub plain_has_all : (m : Meaning) (env : Env) (vs : List Value) → IsPlain m → has_all m env vs ≡ value_has_all (m.value env) vs
plain_has_all m env vs p = rw (p.given env, all_alike (m.has env) (spec.has_value (m.value env)) vs (p.members env)) (plain_all (m.value env) vs)

pub plain_operator : (o : Operator) → spec.is_product o ≡ false → spec.is_arrow o ≡ false → (F G : Meaning) → IsPlain (spec.by_operator o F G)
plain_operator o p a F G = record { given = λ env. rw (p, a) refl; members = λ env v. rw (p, a) refl }
