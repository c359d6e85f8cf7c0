-- Products and sets of relations to the right of a membership.
use Rattle.std.proofs.Common.{◌≡◌, ◌∙◌, Bool, true, false, ◌&&◌, List, [], ◌∷◌, ◌++◌, length, map, Option, Some, None, option_and_then, refl, sym, ap, ap₂, subst}
use Rattle.std.proofs.Math.Path.{fun_ext}
use Rattle.std.specs.List.{list_all}
use Rattle.std.specs.Cmp.{first_so, second_so}
use Rattle.eb_syntax.specs.declared.ast.Operator.{Operator}
use Rattle.eb_syntax.specs.declared.ast.Operator.TheVariants as op
use Rattle.eb_syntax.specs.declared.ast.Call.TheVariants as call
use Rattle.eb_value.specs.declared.scope.Scope.{Scope}
use Rattle.eb_value.specs.declared.types.EbType.{EbType}
use Rattle.eb_value.specs.declared.value.Value.{Value}
use Rattle.eb_value.specs.Types.{product, power}
use Rattle.eb_value.specs.Values.{layer, pair, set, is_ascending}
use Rattle.eb_value.specs.Typing.{has_type, have_type}
use Rattle.eb_value.specs.Comprehensions as sets
use Rattle.eb_value.specs.Comprehensions.{Maplet, members, maplet_in}
use Rattle.eb_term.specs.declared.operators.Unary.TheVariants as unary
use Rattle.eb_term.specs.declared.operators.Side.TheVariants as side
use Rattle.eb_term.specs.declared.term.Term.{Term}
use Rattle.eb_operations.specs.declared.truth3.Truth3.{Truth3}
use Rattle.eb_operations.specs.declared.truth3.Truth3.TheVariants.{Undefined}
use Rattle.eb_meaning.specs.Truths as truths
use Rattle.eb_meaning.specs.Truths.{truth_of, tested, for_all}
use Rattle.eb_meaning.specs.Meaning.{Slot, Env, Meaning, meaning, value_of, truth_in, with_two, with_set, with_sets, call_by, value_by, where_given, is_value, has_value, is_value_of, part_of, is_set, is_pair, is_relation, is_related, is_total, is_surjective, is_function, is_injection, maplet_passes, set_in}
use Rattle.eb_meaning.specs.Meaning as means
use Rattle.narrow_terms.specs.Building.{both, part, both_of, domain, range, inverse, functional}
use Rattle.eb_narrow.specs.Narrow as narrow
use Rattle.eb_narrow.specs.Narrow.{Narrowed}
use Rattle.eb_narrow.proofs.Hypotheses.{Laws}
use Rattle.eb_narrow.proofs.Sights.{Sight, of_value, fixed}
use Rattle.eb_narrow.proofs.Shifts.{env_of, unary_is}
use Rattle.eb_narrow.proofs.Truths.{if_given, given_none, both_undefined, both_truths}
use Rattle.eb_narrow.proofs.Views.{both_so, pair_view, set_view, layer-pair, layer-set, members-set, has_type-set}
use Rattle.eb_narrow.proofs.Products.{has_cross}
use Rattle.eb_narrow.proofs.Pieces.{truth_both, truth_both_of, value_part}
use Rattle.eb_narrow.proofs.Forms.{given_by_all, map_joined, set_is_set}
use Rattle.eb_narrow.proofs.Represents.{Fits, MayBeIn, Represents, of_form, may_be_in, is_of_members, form_represents}

-- ---- the value of a product

cross_given : (xs ys : List Value) → value_by op.Product (set xs) (set ys) ≡ Some (set (sets.cross xs ys))
cross_given xs ys = rw (layer-set xs, layer-set ys) refl

abbrev sight_of_product : Sight → Sight → Sight
sight_of_product A B = record { value = with_two (value_by op.Product) A.value B.value; truth = Undefined; is_given = A.is_given && B.is_given; has = λ v. maplet_passes (λ m. A.has m.first && B.has m.second) (maplet_in (layer v)) }

no_pair : (o : Option Maplet) (f : Maplet → Bool) → maplet_passes (λ m. false && f m) o ≡ false
no_pair None f = refl
no_pair (Some m) f = refl

no_pair_second : (o : Option Maplet) (f : Maplet → Bool) → maplet_passes (λ m. f m && false) o ≡ false
no_pair_second None f = refl
no_pair_second (Some m) f = none (f m)
  where
    none : (b : Bool) → (b && false) ≡ false
    none true = refl
    none false = refl

product_sets : Laws → (xs ys : List Value) → sight_of_product (of_value (Some (set xs))) (of_value (Some (set ys))) ≡ of_value (with_two (value_by op.Product) (Some (set xs)) (Some (set ys)))
product_sets laws xs ys =
    ap₂ (λ o (h : Value → Bool). record { value = o; truth = Undefined; is_given = true; has = h }) (cross_given xs ys)
    (fun_ext (λ v. rw (members-set xs, members-set ys) (sym (has_cross laws xs ys v)) ∙ ap (λ zs. sets.has zs v) (sym (members-set (sets.cross xs ys)))))
    ∙ ap of_value (sym (cross_given xs ys))

pub product_plain : Laws → (scope : Scope) (s t : EbType) (a b : Slot) → Fits scope (power s) a → Fits scope (power t) b → sight_of_product (of_value a) (of_value b) ≡ of_value (with_two (value_by op.Product) a b)
product_plain laws scope s t None b f g = ap (λ (h : Value → Bool). record { value = None; truth = Undefined; is_given = false; has = h }) (fun_ext (λ v. no_pair (maplet_in (layer v)) (λ m. has_value b m.second)))
product_plain laws scope s t (Some v) None f g = ap (λ (h : Value → Bool). record { value = None; truth = Undefined; is_given = false; has = h }) (fun_ext (λ w. no_pair_second (maplet_in (layer w)) (λ m. has_value (Some v) m.first)))
product_plain laws scope s t (Some v) (Some w) f g =
    let x = set_view laws scope s v f in
    let y = set_view laws scope t w g in
    subst (λ v. sight_of_product (of_value (Some v)) (of_value (Some w)) ≡ of_value (with_two (value_by op.Product) (Some v) (Some w))) (sym x.is)
    (subst (λ w. sight_of_product (of_value (Some (set x.inner))) (of_value (Some w)) ≡ of_value (with_two (value_by op.Product) (Some (set x.inner)) (Some w))) (sym y.is) (product_sets laws x.inner y.inner))

-- ---- products with a part that is a form

pair_test_at : (g h : Bool) (p q : Value → Bool) (x y : Value)
    → truths.both (where_given g p (option_and_then (part_of side.First) (Some (pair x y)))) (where_given h q (option_and_then (part_of side.Second) (Some (pair x y))))
    ≡ where_given (g && h) (λ v. maplet_passes (λ m. p m.first && q m.second) (maplet_in (layer v))) (Some (pair x y))
pair_test_at true true p q x y = rw (layer-pair x y) (both_truths (p x) (q y))
pair_test_at true false p q x y = both_undefined (where_given true p (option_and_then (part_of side.First) (Some (pair x y))))
pair_test_at false h p q x y = refl

pair_test : Laws → (scope : Scope) (s t : EbType) (g h : Bool) (p q : Value → Bool) (a : Slot) → Fits scope (product s t) a
    → truths.both (where_given g p (option_and_then (part_of side.First) a)) (where_given h q (option_and_then (part_of side.Second) a))
    ≡ where_given (g && h) (λ v. maplet_passes (λ m. p m.first && q m.second) (maplet_in (layer v))) a
pair_test laws scope s t g h p q None f =
    ap₂ truths.both (given_none g p) (given_none h q) ∙ sym (given_none (g && h) (λ v. maplet_passes (λ m. p m.first && q m.second) (maplet_in (layer v))))
pair_test laws scope s t g h p q (Some v) f =
    let z = pair_view laws scope s t v f in
    subst (λ v. truths.both (where_given g p (option_and_then (part_of side.First) (Some v))) (where_given h q (option_and_then (part_of side.Second) (Some v)))
    ≡ where_given (g && h) (λ v. maplet_passes (λ m. p m.first && q m.second) (maplet_in (layer v))) (Some v)) (sym z.is) (pair_test_at g h p q z.first z.second)

first_part : (x y : Value) → part_of side.First (pair x y) ≡ Some x
first_part x y = rw (layer-pair x y) refl

second_part : (x y : Value) → part_of side.Second (pair x y) ≡ Some y
second_part x y = rw (layer-pair x y) refl

first_may_be_in : Laws → (scope : Scope) (s t : EbType) (a : Slot) → Fits scope (product s t) a → MayBeIn scope (power s) (option_and_then (part_of side.First) a)
first_may_be_in laws scope s t None f = refl
first_may_be_in laws scope s t (Some v) f = let z = pair_view laws scope s t v f in
    subst (λ v. MayBeIn scope (power s) (part_of side.First v)) (sym z.is) (subst (MayBeIn scope (power s)) (sym (first_part z.first z.second)) (may_be_in scope s z.first z.first_typed))

second_may_be_in : Laws → (scope : Scope) (s t : EbType) (a : Slot) → Fits scope (product s t) a → MayBeIn scope (power t) (option_and_then (part_of side.Second) a)
second_may_be_in laws scope s t None f = refl
second_may_be_in laws scope s t (Some v) f = let z = pair_view laws scope s t v f in
    subst (λ v. MayBeIn scope (power t) (part_of side.Second v)) (sym z.is) (subst (MayBeIn scope (power t)) (sym (second_part z.first z.second)) (may_be_in scope t z.second z.second_typed))

module _ (laws : Laws) (scope : Scope) (refs : List Slot) (bound : List Value) (s t : EbType) (ty : Option EbType) (f g : Narrowed) (F G : Sight) (left : Represents scope refs bound (power s) f F) (right : Represents scope refs bound (power t) g G) where
  parts_given : list_all is_value (map (value_of scope (env_of refs bound)) (f.values (length bound) ++ g.values (length bound))) ≡ (F.is_given && G.is_given)
  parts_given = ap (list_all is_value) (map_joined (value_of scope (env_of refs bound)) (f.values (length bound)) (g.values (length bound)))
      ∙ (given_by_all (map (value_of scope (env_of refs bound)) (f.values (length bound))) (map (value_of scope (env_of refs bound)) (g.values (length bound)))
      ∙ ap₂ (λ x y. x && y) left.given right.given)

  pub product_represents : Represents scope refs bound (power (product s t)) (narrow.product_form ty f g) (of_form (F.is_given && G.is_given) (λ v. maplet_passes (λ m. F.has m.first && G.has m.second) (maplet_in (layer v))))
  product_represents = form_represents laws scope refs bound (product s t) ty (λ d. f.values d ++ g.values d) (λ d x e. both (f.has d x (part side.First e)) (g.has d x (part side.Second e)))
      (F.is_given && G.is_given) (λ v. maplet_passes (λ m. F.has m.first && G.has m.second) (maplet_in (layer v))) parts_given
      (λ more e k. let env : Env = env_of refs (bound ++ more) in
      let a : Slot = value_of scope env e in
      let fit : Fits scope (product s t) a = is_of_members scope (product s t) a k in
      truth_both scope env (f.has (length bound) (length more) (part side.First e)) (g.has (length bound) (length more) (part side.Second e))
      ∙ (ap₂ truths.both
      (left.has more (part side.First e) (subst (MayBeIn scope (power s)) (sym (value_part scope env side.First e)) (first_may_be_in laws scope s t a fit)) ∙ ap (where_given F.is_given F.has) (value_part scope env side.First e))
      (right.has more (part side.Second e) (subst (MayBeIn scope (power t)) (sym (value_part scope env side.Second e)) (second_may_be_in laws scope s t a fit)) ∙ ap (where_given G.is_given G.has) (value_part scope env side.Second e))
      ∙ pair_test laws scope s t F.is_given G.is_given F.has G.has a fit))

-- ---- sets of relations

abbrev asked : Bool → Truth3 → List Truth3
asked true p = p ∷ []
asked false p = []

arrow_truths : (p q b r c s : Bool) → for_all (truth_of p ∷ truth_of q ∷ (asked b (truth_of r) ++ asked c (truth_of s)))
    ≡ truth_of (p && q && means.if_asked b r && means.if_asked c s)
arrow_truths true true true true true true = refl
arrow_truths true true true true true false = refl
arrow_truths true true true true false true = refl
arrow_truths true true true true false false = refl
arrow_truths true true true false true true = refl
arrow_truths true true true false true false = refl
arrow_truths true true true false false true = refl
arrow_truths true true true false false false = refl
arrow_truths true true false true true true = refl
arrow_truths true true false true true false = refl
arrow_truths true true false true false true = refl
arrow_truths true true false true false false = refl
arrow_truths true true false false true true = refl
arrow_truths true true false false true false = refl
arrow_truths true true false false false true = refl
arrow_truths true true false false false false = refl
arrow_truths true false true true true true = refl
arrow_truths true false true true true false = refl
arrow_truths true false true true false true = refl
arrow_truths true false true true false false = refl
arrow_truths true false true false true true = refl
arrow_truths true false true false true false = refl
arrow_truths true false true false false true = refl
arrow_truths true false true false false false = refl
arrow_truths true false false true true true = refl
arrow_truths true false false true true false = refl
arrow_truths true false false true false true = refl
arrow_truths true false false true false false = refl
arrow_truths true false false false true true = refl
arrow_truths true false false false true false = refl
arrow_truths true false false false false true = refl
arrow_truths true false false false false false = refl
arrow_truths false true true true true true = refl
arrow_truths false true true true true false = refl
arrow_truths false true true true false true = refl
arrow_truths false true true true false false = refl
arrow_truths false true true false true true = refl
arrow_truths false true true false true false = refl
arrow_truths false true true false false true = refl
arrow_truths false true true false false false = refl
arrow_truths false true false true true true = refl
arrow_truths false true false true true false = refl
arrow_truths false true false true false true = refl
arrow_truths false true false true false false = refl
arrow_truths false true false false true true = refl
arrow_truths false true false false true false = refl
arrow_truths false true false false false true = refl
arrow_truths false true false false false false = refl
arrow_truths false false true true true true = refl
arrow_truths false false true true true false = refl
arrow_truths false false true true false true = refl
arrow_truths false false true true false false = refl
arrow_truths false false true false true true = refl
arrow_truths false false true false true false = refl
arrow_truths false false true false false true = refl
arrow_truths false false true false false false = refl
arrow_truths false false false true true true = refl
arrow_truths false false false true true false = refl
arrow_truths false false false true false true = refl
arrow_truths false false false true false false = refl
arrow_truths false false false false true true = refl
arrow_truths false false false false true false = refl
arrow_truths false false false false false true = refl
arrow_truths false false false false false false = refl

arrow_given : (g h p q b r c s : Bool) → for_all (if_given g (truth_of p) ∷ if_given h (truth_of q) ∷ (asked b (truth_of r) ++ asked c (truth_of s)))
    ≡ if_given (g && h) (truth_of (p && q && means.if_asked b r && means.if_asked c s))
arrow_given true true p q b r c s = arrow_truths p q b r c s
arrow_given true false p q b r c s = both_undefined (truth_of p)
arrow_given false h p q b r c s = refl

-- a side of a relation, as a test of a set
abbrev covers_test : Bool → Sight → Value → Bool
covers_test true F v = is_value_of F.value v
covers_test false F v = list_all F.has (members v)

covers_at : (b : Bool) (env : Env) (F : Sight) (xs : List Value) → covers_test b F (set xs) ≡ means.covers b env (fixed F) xs
covers_at true env F xs = refl
covers_at false env F xs = ap (list_all F.has) (members-set xs)

given_some : (g : Bool) (p : Value → Bool) (v : Value) → where_given g p (Some v) ≡ if_given g (truth_of (p v))
given_some true p v = refl
given_some false p v = refl

some_given : (g : Bool) (p : Value → Bool) (v : Value) (b : Bool) → p v ≡ b → where_given g p (Some v) ≡ if_given g (truth_of b)
some_given g p v b e = given_some g p v ∙ ap (λ x. if_given g (truth_of x)) e

all_pairs : Laws → (scope : Scope) (s t : EbType) (r : List Value) → have_type scope r (product s t) ≡ true → list_all is_pair r ≡ true
all_pairs laws scope s t [] h = refl
all_pairs laws scope s t (v ∷ vs) h =
    let z = pair_view laws scope s t v (first_so (has_type scope v (product s t)) (have_type scope vs (product s t)) h) in
    let here : is_pair v ≡ true = subst (λ w. is_pair w ≡ true) (sym z.is) (rw (layer-pair z.first z.second) refl) in
    both_so (is_pair v) (list_all is_pair vs) here (all_pairs laws scope s t vs (second_so (has_type scope v (product s t)) (have_type scope vs (product s t)) h))

set_of_pairs : Laws → (scope : Scope) (s t : EbType) (r : List Value) → have_type scope r (product s t) ≡ true → is_relation (set r) ≡ true
set_of_pairs laws scope s t r h = both_so (is_set (set r)) (list_all is_pair (members (set r))) (set_is_set r) (subst (λ xs. list_all is_pair xs ≡ true) (sym (members-set r)) (all_pairs laws scope s t r h))

-- what a set of relations holds, by what its sides are
abbrev pub arrow_has : Operator → Env → Sight → Sight → Value → Bool
arrow_has o env F G v = is_relation v && is_related o env (fixed F) (fixed G) (members v)

abbrev sides : Operator → Sight → Sight → Slot → Slot → Slot → List Truth3
sides o F G a d r = where_given F.is_given (covers_test (is_total o) F) d ∷ where_given G.is_given (covers_test (is_surjective o) G) r
    ∷ (asked (is_function o) (tested (option_and_then (with_set (λ r. Some (sets.is_functional r))) a))
    ++ asked (is_injection o) (tested (option_and_then (with_set (λ r. Some (sets.is_functional r))) (option_and_then (with_set (λ r. Some (set (sets.inverse r)))) a))))

holds_at : Laws → (scope : Scope) (env : Env) (s t : EbType) (o : Operator) (F G : Sight) (r : List Value) → have_type scope r (product s t) ≡ true
    → arrow_has o env F G (set r) ≡ (means.covers (is_total o) env (fixed F) (sets.domain r) && means.covers (is_surjective o) env (fixed G) (sets.range r)
    && means.if_asked (is_function o) (sets.is_functional r) && means.if_asked (is_injection o) (sets.is_functional (sets.inverse r)))
holds_at laws scope env s t o F G r h = rw (set_of_pairs laws scope s t r h, members-set r) refl

functional_at : (r : List Value) → tested (option_and_then (with_set (λ r. Some (sets.is_functional r))) (Some (set r))) ≡ truth_of (sets.is_functional r)
functional_at r = rw (layer-set r) refl

injective_at : (r : List Value) → tested (option_and_then (with_set (λ r. Some (sets.is_functional r))) (option_and_then (with_set (λ r. Some (set (sets.inverse r)))) (Some (set r)))) ≡ truth_of (sets.is_functional (sets.inverse r))
injective_at r = rw (layer-set r, layer-set (sets.inverse r)) refl

domain_at : (r : List Value) → option_and_then (with_set (call_by call.Domain)) (Some (set r)) ≡ Some (set (sets.domain r))
domain_at r = rw (layer-set r) refl

range_at : (r : List Value) → option_and_then (with_set (call_by call.Range)) (Some (set r)) ≡ Some (set (sets.range r))
range_at r = rw (layer-set r) refl

relation_at : Laws → (scope : Scope) (env : Env) (s t : EbType) (o : Operator) (F G : Sight) (r : List Value) → have_type scope r (product s t) ≡ true
    → for_all (sides o F G (Some (set r)) (Some (set (sets.domain r))) (Some (set (sets.range r)))) ≡ where_given (F.is_given && G.is_given) (arrow_has o env F G) (Some (set r))
relation_at laws scope env s t o F G r h =
    ap₂ (λ x y. for_all (x ∷ y)) (some_given F.is_given (covers_test (is_total o) F) (set (sets.domain r)) (means.covers (is_total o) env (fixed F) (sets.domain r)) (covers_at (is_total o) env F (sets.domain r)))
    (ap₂ (λ x y. x ∷ y) (some_given G.is_given (covers_test (is_surjective o) G) (set (sets.range r)) (means.covers (is_surjective o) env (fixed G) (sets.range r)) (covers_at (is_surjective o) env G (sets.range r)))
    (ap₂ (λ x y. asked (is_function o) x ++ asked (is_injection o) y) (functional_at r) (injective_at r)))
    ∙ (arrow_given F.is_given G.is_given (means.covers (is_total o) env (fixed F) (sets.domain r)) (means.covers (is_surjective o) env (fixed G) (sets.range r)) (is_function o) (sets.is_functional r) (is_injection o) (sets.is_functional (sets.inverse r))
    ∙ sym (some_given (F.is_given && G.is_given) (arrow_has o env F G) (set r) _ (holds_at laws scope env s t o F G r h)))

relation_test : Laws → (scope : Scope) (env : Env) (s t : EbType) (o : Operator) (F G : Sight) (a : Slot) → Fits scope (power (product s t)) a
    → for_all (sides o F G a (option_and_then (with_set (call_by call.Domain)) a) (option_and_then (with_set (call_by call.Range)) a)) ≡ where_given (F.is_given && G.is_given) (arrow_has o env F G) a
relation_test laws scope env s t o F G None f =
    ap (λ x. truths.both x (for_all (where_given G.is_given (covers_test (is_surjective o) G) None ∷ (asked (is_function o) Undefined ++ asked (is_injection o) Undefined)))) (given_none F.is_given (covers_test (is_total o) F))
    ∙ sym (given_none (F.is_given && G.is_given) (arrow_has o env F G))
relation_test laws scope env s t o F G (Some v) f =
    let z = set_view laws scope (product s t) v f in
    subst (λ v. for_all (sides o F G (Some v) (option_and_then (with_set (call_by call.Domain)) (Some v)) (option_and_then (with_set (call_by call.Range)) (Some v))) ≡ where_given (F.is_given && G.is_given) (arrow_has o env F G) (Some v)) (sym z.is)
    (ap₂ (λ d r. for_all (sides o F G (Some (set z.inner)) d r)) (domain_at z.inner) (range_at z.inner) ∙ relation_at laws scope env s t o F G z.inner z.typed)

value_domain : (scope : Scope) (env : Env) (e : Term) → value_of scope env (domain e) ≡ option_and_then (with_set (call_by call.Domain)) (value_of scope env e)
value_domain scope env e = ap (λ m. m.value env) (unary_is scope (unary.Call call.Domain) e)

value_range : (scope : Scope) (env : Env) (e : Term) → value_of scope env (range e) ≡ option_and_then (with_set (call_by call.Range)) (value_of scope env e)
value_range scope env e = ap (λ m. m.value env) (unary_is scope (unary.Call call.Range) e)

value_inverse : (scope : Scope) (env : Env) (e : Term) → value_of scope env (inverse e) ≡ option_and_then (with_set (λ r. Some (set (sets.inverse r)))) (value_of scope env e)
value_inverse scope env e = ap (λ m. m.value env) (unary_is scope unary.Inverse e)

truth_functional : (scope : Scope) (env : Env) (e : Term) → truth_in scope env (functional e) ≡ tested (option_and_then (with_set (λ r. Some (sets.is_functional r))) (value_of scope env e))
truth_functional scope env e = ap (λ m. m.truth env) (unary_is scope unary.Functional e)

made : Laws → (scope : Scope) (t : EbType) (xs : List Value) → is_ascending xs ≡ true → have_type scope xs t ≡ true → Fits scope (power t) (Some (set xs))
made laws scope t xs h k = has_type-set scope xs t ∙ both_so (is_ascending xs) (have_type scope xs t) h k

domain_fits : Laws → (scope : Scope) (s t : EbType) (a : Slot) → Fits scope (power (product s t)) a → Fits scope (power s) (option_and_then (with_set (call_by call.Domain)) a)
domain_fits laws scope s t None f = refl
domain_fits laws scope s t (Some v) f = let z = set_view laws scope (product s t) v f in
    subst (λ v. Fits scope (power s) (option_and_then (with_set (call_by call.Domain)) (Some v))) (sym z.is)
    (subst (Fits scope (power s)) (sym (domain_at z.inner)) (made laws scope s (sets.domain z.inner) (laws.sets (sets.domain z.inner) (laws.domain z.inner z.canonical)).0 (laws.domain_type scope s t z.inner z.typed)))

range_fits : Laws → (scope : Scope) (s t : EbType) (a : Slot) → Fits scope (power (product s t)) a → Fits scope (power t) (option_and_then (with_set (call_by call.Range)) a)
range_fits laws scope s t None f = refl
range_fits laws scope s t (Some v) f = let z = set_view laws scope (product s t) v f in
    subst (λ v. Fits scope (power t) (option_and_then (with_set (call_by call.Range)) (Some v))) (sym z.is)
    (subst (Fits scope (power t)) (sym (range_at z.inner)) (made laws scope t (sets.range z.inner) (laws.sets (sets.range z.inner) (laws.range z.inner z.canonical)).0 (laws.range_type scope s t z.inner z.typed)))

asked_truth : (scope : Scope) (env : Env) (b : Bool) (p : Term) → map (truth_in scope env) (narrow.if_asked b p) ≡ asked b (truth_in scope env p)
asked_truth scope env true p = refl
asked_truth scope env false p = refl

covers_truth : (scope : Scope) (refs : List Slot) (bound more : List Value) (s : EbType) (f : Narrowed) (F : Sight) → Represents scope refs bound (power s) f F → (b : Bool) (e : Term) → Fits scope (power s) (value_of scope (env_of refs (bound ++ more)) e)
    → truth_in scope (env_of refs (bound ++ more)) (narrow.covers b f (length bound) (length more) e) ≡ where_given F.is_given (covers_test b F) (value_of scope (env_of refs (bound ++ more)) e)
covers_truth scope refs bound more s f F known true e h = known.whole more e h
covers_truth scope refs bound more s f F known false e h = known.within more e h

module _ (laws : Laws) (scope : Scope) (refs : List Slot) (bound : List Value) (s t : EbType) (ty : Option EbType) (f g : Narrowed) (F G : Sight) (left : Represents scope refs bound (power s) f F) (right : Represents scope refs bound (power t) g G) (o : Operator) where
  arrow_each : (more : List Value) (e : Term) → Fits scope (power (product s t)) (value_of scope (env_of refs (bound ++ more)) e)
      → truth_in scope (env_of refs (bound ++ more)) (both_of (narrow.covers (is_total o) f (length bound) (length more) (domain e) ∷ narrow.covers (is_surjective o) g (length bound) (length more) (range e)
      ∷ (narrow.if_asked (is_function o) (functional e) ++ narrow.if_asked (is_injection o) (functional (inverse e)))))
      ≡ where_given (F.is_given && G.is_given) (arrow_has o (env_of refs bound) F G) (value_of scope (env_of refs (bound ++ more)) e)
  arrow_each more e h =
      let env : Env = env_of refs (bound ++ more) in
      let a : Slot = value_of scope env e in
      let of_domain : truth_in scope env (narrow.covers (is_total o) f (length bound) (length more) (domain e)) ≡ where_given F.is_given (covers_test (is_total o) F) (option_and_then (with_set (call_by call.Domain)) a) =
      covers_truth scope refs bound more s f F left (is_total o) (domain e) (subst (Fits scope (power s)) (sym (value_domain scope env e)) (domain_fits laws scope s t a h)) ∙ ap (where_given F.is_given (covers_test (is_total o) F)) (value_domain scope env e) in
      let of_range : truth_in scope env (narrow.covers (is_surjective o) g (length bound) (length more) (range e)) ≡ where_given G.is_given (covers_test (is_surjective o) G) (option_and_then (with_set (call_by call.Range)) a) =
      covers_truth scope refs bound more t g G right (is_surjective o) (range e) (subst (Fits scope (power t)) (sym (value_range scope env e)) (range_fits laws scope s t a h)) ∙ ap (where_given G.is_given (covers_test (is_surjective o) G)) (value_range scope env e) in
      let functions : map (truth_in scope env) (narrow.if_asked (is_function o) (functional e)) ≡ asked (is_function o) (tested (option_and_then (with_set (λ r. Some (sets.is_functional r))) a)) =
      asked_truth scope env (is_function o) (functional e) ∙ ap (asked (is_function o)) (truth_functional scope env e) in
      let injections : map (truth_in scope env) (narrow.if_asked (is_injection o) (functional (inverse e))) ≡ asked (is_injection o) (tested (option_and_then (with_set (λ r. Some (sets.is_functional r))) (option_and_then (with_set (λ r. Some (set (sets.inverse r)))) a))) =
      asked_truth scope env (is_injection o) (functional (inverse e)) ∙ ap (asked (is_injection o)) (truth_functional scope env (inverse e) ∙ ap (λ b. tested (option_and_then (with_set (λ r. Some (sets.is_functional r))) b)) (value_inverse scope env e)) in
      truth_both_of scope env (narrow.covers (is_total o) f (length bound) (length more) (domain e) ∷ narrow.covers (is_surjective o) g (length bound) (length more) (range e)
      ∷ (narrow.if_asked (is_function o) (functional e) ++ narrow.if_asked (is_injection o) (functional (inverse e))))
      ∙ (ap₂ (λ x y. for_all (x ∷ y)) of_domain (ap₂ (λ x y. x ∷ y) of_range
      (map_joined (truth_in scope env) (narrow.if_asked (is_function o) (functional e)) (narrow.if_asked (is_injection o) (functional (inverse e))) ∙ ap₂ (λ x y. x ++ y) functions injections))
      ∙ relation_test laws scope (env_of refs bound) s t o F G a h)

  both_given : list_all is_value (map (value_of scope (env_of refs bound)) (f.values (length bound) ++ g.values (length bound))) ≡ (F.is_given && G.is_given)
  both_given = parts_given laws scope refs bound s t ty f g F G left right

  pub arrow_represents : Represents scope refs bound (power (power (product s t))) (narrow.arrow_form o ty f g) (of_form (F.is_given && G.is_given) (arrow_has o (env_of refs bound) F G))
  arrow_represents = form_represents laws scope refs bound (power (product s t)) ty (λ d. f.values d ++ g.values d)
      (λ d x e. both_of (narrow.covers (is_total o) f d x (domain e) ∷ narrow.covers (is_surjective o) g d x (range e)
      ∷ (narrow.if_asked (is_function o) (functional e) ++ narrow.if_asked (is_injection o) (functional (inverse e)))))
      (F.is_given && G.is_given) (arrow_has o (env_of refs bound) F G) both_given
      (λ more e k. arrow_each more e (is_of_members scope (power (product s t)) (value_of scope (env_of refs (bound ++ more)) e) k))
