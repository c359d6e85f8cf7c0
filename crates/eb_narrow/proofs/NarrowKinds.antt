-- Expressions and forms in narrow form.
use Rattle.std.proofs.Common.{◌≡◌, ◌∙◌, refl, sym, ap, subst, ℕ, Bool, true, false, ◌&&◌, ◌||◌, if◌then◌else◌, List, [], ◌∷◌, ◌++◌, map, Option, Some, None, rules}
use Rattle.eb_syntax.specs.declared.ast.Prefix.TheVariants as prefix
use Rattle.eb_syntax.specs.declared.ast.Call.{Call}
use Rattle.eb_syntax.specs.declared.ast.Call.TheVariants as call
use Rattle.eb_syntax.specs.declared.ast.Operator.{Operator}
use Rattle.eb_syntax.specs.declared.ast.Operator.TheVariants as op
use Rattle.eb_value.specs.declared.types.EbType.{EbType}
use Rattle.eb_value.specs.Types.{product}
use Rattle.type_table.specs.Rows.{relation}
use Rattle.eb_term.specs.Typed.{of_two}
use Rattle.eb_term.specs.declared.operators.Unary.{Unary}
use Rattle.eb_term.specs.declared.operators.Unary.TheVariants as unary
use Rattle.eb_term.specs.declared.operators.Binary.{Binary}
use Rattle.eb_term.specs.declared.operators.Binary.TheVariants as binary
use Rattle.eb_term.specs.declared.operators.Binder.{Binder}
use Rattle.eb_term.specs.declared.operators.Binder.TheVariants as binder
use Rattle.eb_term.specs.declared.operators.Many.{Many}
use Rattle.eb_term.specs.declared.operators.Many.TheVariants as many
use Rattle.eb_term.specs.declared.operators.Infinite.{Infinite}
use Rattle.eb_term.specs.declared.operators.Infinite.TheVariants as infinite
use Rattle.eb_term.specs.declared.term.Term.{Term}
use Rattle.eb_term.specs.declared.term.Head.{the_lemmas}
use Rattle.eb_term.specs.declared.term.Head.TheVariants as head
use Rattle.eb_term.specs.Terms as term
use Rattle.eb_meaning.specs.Meaning.{is_product, is_arrow}
use Rattle.narrow_terms.specs.Shifting.{shift}
use Rattle.narrow_terms.specs.Building.{operation, is_defined, negation, both, both_on, both_of}
use Rattle.term_types.specs.Types.{type_of, type_by_unary, type_by_binary, type_by_many, type_by_binder}
use Rattle.eb_narrow.specs.Narrow.{Narrowed, narrowed, expression, predicate, form, infinite_set, each_member, no_set_is_all, by_unary, by_call, by_binary, by_relation, by_many, by_range, product_form, element_type, arrow_form, identity, projection}
use Rattle.eb_narrow.specs.steps.Narrowing as step
use Rattle.eb_narrow.proofs.TermInduction.{ind_term}
use Rattle.eb_narrow.proofs.NarrowAt as at

-- an expression has the members of its value and is all of it; a form has them one by one, and no set is all of it
pub record Kind (n : Narrowed) (whole : Bool) : Type 0 where
  pub members : n.is_form ≡ false → (d x : ℕ) (e : Term) → n.has_members d x e ≡ operation op.SubsetOf e (shift d x (n.term d))
  pub all : n.is_form ≡ false → (d x : ℕ) (e : Term) → n.is_all d x e ≡ operation op.Equal e (shift d x (n.term d))
  pub values : n.is_form ≡ false → (d : ℕ) → n.values d ≡ n.term d ∷ []
  pub each : n.is_form ≡ true → whole ≡ false → (d x : ℕ) (e : Term) → n.has_members d x e ≡ each_member n.ty n.values n.has d x e
  pub never : n.is_form ≡ true → (d x : ℕ) (e : Term) → n.is_all d x e ≡ no_set_is_all n.values d x e

plain : (ty : Option EbType) (t : ℕ → Term) (b : Bool) → Kind (expression ty t) b
plain ty t b = record {
  members = λ h d x e. refl;
  all = λ h d x e. refl;
  values = λ h d. refl;
  each = λ h k d x e. (let none : false ≡ true = h in absurd cc);
  never = λ h d x e. (let none : false ≡ true = h in absurd cc);
}

formed : (ty : Option EbType) (vs : ℕ → List Term) (has : ℕ → ℕ → Term → Term) (b : Bool) → Kind (form ty vs has) b
formed ty vs has b = record {
  members = λ h d x e. (let none : true ≡ false = h in absurd cc);
  all = λ h d x e. (let none : true ≡ false = h in absurd cc);
  values = λ h d. (let none : true ≡ false = h in absurd cc);
  each = λ h k d x e. refl;
  never = λ h d x e. refl;
}

abbrev whole : Infinite → Bool
whole infinite.Integers = true
whole infinite.Naturals = false
whole infinite.PositiveNaturals = false

whole_is : (i : Infinite) → step.is_integers (term.infinite i) ≡ whole i
whole_is infinite.Integers = search (rules, the_lemmas)
whole_is infinite.Naturals = search (rules, the_lemmas)
whole_is infinite.PositiveNaturals = search (rules, the_lemmas)

infinite_kind : (i : Infinite) → Kind (infinite_set i) (whole i)
infinite_kind infinite.Integers = record {
  members = λ h d x e. (let none : true ≡ false = h in absurd cc);
  all = λ h d x e. (let none : true ≡ false = h in absurd cc);
  values = λ h d. (let none : true ≡ false = h in absurd cc);
  each = λ h k d x e. (let none : true ≡ false = k in absurd cc);
  never = λ h d x e. refl;
}
infinite_kind infinite.Naturals = record {
  members = λ h d x e. (let none : true ≡ false = h in absurd cc);
  all = λ h d x e. (let none : true ≡ false = h in absurd cc);
  values = λ h d. (let none : true ≡ false = h in absurd cc);
  each = λ h k d x e. refl;
  never = λ h d x e. refl;
}
infinite_kind infinite.PositiveNaturals = record {
  members = λ h d x e. (let none : true ≡ false = h in absurd cc);
  all = λ h d x e. (let none : true ≡ false = h in absurd cc);
  values = λ h d. (let none : true ≡ false = h in absurd cc);
  each = λ h k d x e. refl;
  never = λ h d x e. refl;
}

call_kind : (c : Call) (ty : Option EbType) (a : Narrowed) → Kind (by_call c ty a) false
call_kind call.PowerSet ty a = formed ty _ _ false
call_kind call.NonemptyPowerSet ty a = formed ty _ _ false
call_kind call.Cardinality ty a = plain ty _ false
call_kind call.Minimum ty a = plain ty _ false
call_kind call.Maximum ty a = plain ty _ false
call_kind call.Domain ty a = plain ty _ false
call_kind call.Range ty a = plain ty _ false
call_kind call.GeneralizedUnion ty a = plain ty _ false
call_kind call.GeneralizedIntersection ty a = plain ty _ false
call_kind call.BoolOf ty a = plain ty _ false
call_kind call.Finite ty a = plain None _ false

unary_kind : (o : Unary) (ty : Option EbType) (a : Narrowed) → Kind (by_unary o ty a) false
unary_kind (unary.Prefix prefix.Not) ty a = plain None _ false
unary_kind (unary.Prefix prefix.Minus) ty a = plain ty _ false
unary_kind (unary.Call c) ty a = call_kind c ty a
unary_kind unary.Inverse ty a = plain ty _ false
unary_kind unary.Defined ty a = plain None _ false
unary_kind unary.Functional ty a = plain None _ false
unary_kind (unary.Part s) ty a = plain ty _ false

relation_kind : (o : Operator) (ty : Option EbType) (a b : Narrowed) → Kind (by_relation o ty a b) false
relation_kind op.UpTo ty a b = record {
  members = λ h d x e. refl;
  all = λ h d x e. refl;
  values = λ h d. refl;
  each = λ h k d x e. (let none : false ≡ true = h in absurd cc);
  never = λ h d x e. (let none : false ≡ true = h in absurd cc);
}
relation_kind _ ty a b = record {
  members = λ h d x e. refl;
  all = λ h d x e. refl;
  values = λ h d. refl;
  each = λ h k d x e. (let none : false ≡ true = h in absurd cc);
  never = λ h d x e. (let none : false ≡ true = h in absurd cc);
}

product_kind : (c : Bool) (o : Operator) (ty : Option EbType) (a b : Narrowed) → Kind (if c then product_form ty a b else by_relation o ty a b) false
product_kind true o ty a b = formed ty _ _ false
product_kind false o ty a b = relation_kind o ty a b

arrow_kind : (c : Bool) (o : Operator) (vs : ℕ → List Term) (has : ℕ → ℕ → Term → Term) (ty : Option EbType) (a b : Narrowed)
    → Kind (if c then form ty vs has else (if is_product o && (a.is_form || b.is_form) then product_form ty a b else by_relation o ty a b)) false
arrow_kind true o vs has ty a b = formed ty vs has false
arrow_kind false o vs has ty a b = product_kind (is_product o && (a.is_form || b.is_form)) o ty a b

binary_kind : (o : Binary) (ty : Option EbType) (a b : Narrowed) → Kind (by_binary o ty a b) false
binary_kind (binary.Operator o) ty a b = arrow_kind (is_arrow o) o _ _ ty a b
binary_kind binary.Both ty a b = plain None _ false
binary_kind binary.If ty a b = plain ty _ false

many_kind : (o : Many) (ty : Option EbType) (es : List Narrowed) → Kind (by_many o ty es) false
many_kind many.Extension ty es = plain ty _ false
many_kind many.Partition ty es = plain None _ false

range_kind : (o : Binder) (ty : Option EbType) (bind : Binder → ℕ → Term → Term) (p : Narrowed) → Kind (by_range o ty bind p) false
range_kind binder.ForAll ty bind p = plain None _ false
range_kind binder.Exists ty bind p = plain None _ false
range_kind binder.Collect ty bind p = plain ty _ false

moved : (t : Term) (n : Narrowed) (b : Bool) → narrowed t ≡ n → step.is_integers t ≡ b → Kind n b → Kind (narrowed t) (step.is_integers t)
moved t n b p q k = subst (λ m. Kind m (step.is_integers t)) (sym p) (subst (λ c. Kind n c) (sym q) k)

pub kind : (t : Term) → Kind (narrowed t) (step.is_integers t)
kind = ind_term (λ t. Kind (narrowed t) (step.is_integers t)) (record {
  truth = λ b. moved (term.truth b) (predicate (λ d. term.truth b)) false (search (rules, the_lemmas)) (search (rules, the_lemmas)) (plain None (λ d. term.truth b) false);
  literal = λ v ty. moved (term.literal v ty) (expression (Some ty) (λ d. term.literal v ty)) false (search (rules, the_lemmas)) (search (rules, the_lemmas)) (plain (Some ty) (λ d. term.literal v ty) false);
  reference = λ place ty. moved (term.reference place ty) (expression (Some ty) (λ d. term.reference place ty)) false (search (rules, the_lemmas)) (search (rules, the_lemmas)) (plain (Some ty) (λ d. term.reference place ty) false);
  variable = λ k path ty. moved (term.variable k path ty) (expression (Some ty) (λ d. term.variable k path ty)) false (search (rules, the_lemmas)) (search (rules, the_lemmas)) (plain (Some ty) (λ d. term.variable k path ty) false);
  infinite = λ i. moved (term.infinite i) (infinite_set i) (whole i) (search (rules, the_lemmas)) (whole_is i) (infinite_kind i);
  identity = λ ty. moved (term.identity ty) (expression (Some (relation ty ty)) (identity ty)) false (search (rules, the_lemmas)) (search (rules, the_lemmas)) (plain (Some (relation ty ty)) (identity ty) false);
  projection = λ s a b. moved (term.projection s a b) (expression (Some (relation (product a b) (of_two s a b))) (projection s a b)) false (search (rules, the_lemmas)) (search (rules, the_lemmas)) (plain (Some (relation (product a b) (of_two s a b))) (projection s a b) false);
  unary = λ o a p. moved (term.unary o a) (by_unary o (type_by_unary o (narrowed a).ty) (narrowed a)) false (at.unary_is (term.unary o a) a o (search (rules, the_lemmas))) (search (rules, the_lemmas)) (unary_kind o (type_by_unary o (narrowed a).ty) (narrowed a));
  binary = λ o a b p q. moved (term.binary o a b) (by_binary o (type_by_binary o (narrowed a).ty (narrowed b).ty) (narrowed a) (narrowed b)) false (at.binary_is (term.binary o a b) a b o (search (rules, the_lemmas))) (search (rules, the_lemmas)) (binary_kind o (type_by_binary o (narrowed a).ty (narrowed b).ty) (narrowed a) (narrowed b));
  many = λ o ts p. moved (term.many o ts) (by_many o (type_by_many o (map (λ e. e.ty) (map narrowed ts))) (map narrowed ts)) false (at.many_is (term.many o ts) o ts (search (rules, the_lemmas))) (search (rules, the_lemmas)) (many_kind o (type_by_many o (map (λ e. e.ty) (map narrowed ts))) (map narrowed ts));
  over = λ o s body p q. moved (term.over o s body) (by_range o (type_by_binder o (narrowed body).ty) (λ k d r. term.over k ((narrowed s).term d) r) (narrowed body)) false (at.over_is (term.over o s body) s body o (search (rules, the_lemmas))) (search (rules, the_lemmas)) (range_kind o (type_by_binder o (narrowed body).ty) (λ k d r. term.over k ((narrowed s).term d) r) (narrowed body));
  all = λ o ty body p. moved (term.all o ty body) (by_range o (type_by_binder o (narrowed body).ty) (λ k d r. term.all k ty r) (narrowed body)) false (at.all_is (term.all o ty body) body o ty (search (rules, the_lemmas))) (search (rules, the_lemmas)) (range_kind o (type_by_binder o (narrowed body).ty) (λ k d r. term.all k ty r) (narrowed body));
})

-- ---- what is joined

joined_from : (p : Term) (xs : List Term) (q : Term) → both_on p (xs ++ q ∷ []) ≡ step.joined (step.joined_on (Some p) xs) q
joined_from p [] q = refl
joined_from p (x ∷ xs) q = joined_from (both p x) xs q

pub joined_all : (xs : List Term) (q : Term) → both_of (xs ++ q ∷ []) ≡ step.joined (step.joined_on None xs) q
joined_all [] q = refl
joined_all (x ∷ xs) q = joined_from x xs q

pub joined_twice : (p : Option Term) (xs ys : List Term) → step.joined_on p (xs ++ ys) ≡ step.joined_on (step.joined_on p xs) ys
joined_twice p [] ys = refl
joined_twice p (x ∷ xs) ys = joined_twice (Some (step.joined p x)) xs ys

pub members_are : (t : Term) (d x : ℕ) (e : Term) → (narrowed t).is_form ≡ true → step.is_integers t ≡ false
    → step.joined (step.joined_on None (step.defined_values (narrowed t) d x)) (step.has_no_other (element_type (type_of t)) (narrowed t) d x e) ≡ (narrowed t).has_members d x e
members_are t d x e h k =
    ap (λ ty. step.joined (step.joined_on None (step.defined_values (narrowed t) d x)) (step.has_no_other (element_type ty) (narrowed t) d x e)) (sym (at.same_type t))
    ∙ (sym (joined_all (step.defined_values (narrowed t) d x) (step.has_no_other (element_type (narrowed t).ty) (narrowed t) d x e)) ∙ sym ((kind t).each h k d x e))

pub all_are : (t : Term) (d x : ℕ) (e : Term) → (narrowed t).is_form ≡ true
    → step.joined (step.joined_on None (step.defined_values (narrowed t) d x)) (negation (is_defined e)) ≡ (narrowed t).is_all d x e
all_are t d x e h = sym (joined_all (step.defined_values (narrowed t) d x) (negation (is_defined e))) ∙ sym ((kind t).never h d x e)

pub members_beside : (t : Term) (d x : ℕ) (e : Term) → (narrowed t).is_form ≡ false → operation op.SubsetOf e (shift d x ((narrowed t).term d)) ≡ (narrowed t).has_members d x e
members_beside t d x e h = sym ((kind t).members h d x e)

pub all_beside : (t : Term) (d x : ℕ) (e : Term) → (narrowed t).is_form ≡ false → operation op.Equal e (shift d x ((narrowed t).term d)) ≡ (narrowed t).is_all d x e
all_beside t d x e h = sym ((kind t).all h d x e)

-- ---- the parts that are values

pub value_defined : (t : Term) (d x : ℕ) (before : Option Term) → (narrowed t).is_form ≡ false
    → Some (step.joined before (is_defined (shift d x ((narrowed t).term d)))) ≡ step.joined_on before (step.defined_values (narrowed t) d x)
value_defined t d x before h = ap (λ vs. step.joined_on before (map (λ v. is_defined (shift d x v)) vs)) (sym ((kind t).values h d))

call_values : (c : Call) (ty : Option EbType) (a : Narrowed) (d : ℕ) → (by_call c ty a).is_form ≡ true → (by_call c ty a).values d ≡ a.values d
call_values call.PowerSet ty a d h = refl
call_values call.NonemptyPowerSet ty a d h = refl
call_values call.Cardinality ty a d h = let none : false ≡ true = h in absurd cc
call_values call.Minimum ty a d h = let none : false ≡ true = h in absurd cc
call_values call.Maximum ty a d h = let none : false ≡ true = h in absurd cc
call_values call.Domain ty a d h = let none : false ≡ true = h in absurd cc
call_values call.Range ty a d h = let none : false ≡ true = h in absurd cc
call_values call.GeneralizedUnion ty a d h = let none : false ≡ true = h in absurd cc
call_values call.GeneralizedIntersection ty a d h = let none : false ≡ true = h in absurd cc
call_values call.BoolOf ty a d h = let none : false ≡ true = h in absurd cc
call_values call.Finite ty a d h = let none : false ≡ true = h in absurd cc

unary_values : (o : Unary) (ty : Option EbType) (a : Narrowed) (d : ℕ) → (by_unary o ty a).is_form ≡ true → (by_unary o ty a).values d ≡ a.values d
unary_values (unary.Prefix prefix.Not) ty a d h = let none : false ≡ true = h in absurd cc
unary_values (unary.Prefix prefix.Minus) ty a d h = let none : false ≡ true = h in absurd cc
unary_values (unary.Call c) ty a d h = call_values c ty a d h
unary_values unary.Inverse ty a d h = let none : false ≡ true = h in absurd cc
unary_values unary.Defined ty a d h = let none : false ≡ true = h in absurd cc
unary_values unary.Functional ty a d h = let none : false ≡ true = h in absurd cc
unary_values (unary.Part s) ty a d h = let none : false ≡ true = h in absurd cc

relation_no_form : (o : Operator) (ty : Option EbType) (a b : Narrowed) → (by_relation o ty a b).is_form ≡ false
relation_no_form op.UpTo ty a b = refl
relation_no_form _ ty a b = refl

product_values : (c : Bool) (o : Operator) (ty : Option EbType) (a b : Narrowed) (d : ℕ) → (if c then product_form ty a b else by_relation o ty a b).is_form ≡ true
    → (if c then product_form ty a b else by_relation o ty a b).values d ≡ a.values d ++ b.values d
product_values true o ty a b d h = refl
product_values false o ty a b d h = let none : false ≡ true = sym (relation_no_form o ty a b) ∙ h in absurd cc

operator_values : (arrow c : Bool) (o : Operator) (ty : Option EbType) (a b : Narrowed) (d : ℕ)
    → (if arrow then arrow_form o ty a b else (if c then product_form ty a b else by_relation o ty a b)).is_form ≡ true
    → (if arrow then arrow_form o ty a b else (if c then product_form ty a b else by_relation o ty a b)).values d ≡ a.values d ++ b.values d
operator_values true c o ty a b d h = refl
operator_values false c o ty a b d h = product_values c o ty a b d h

binary_values : (o : Binary) (ty : Option EbType) (a b : Narrowed) (d : ℕ) → (by_binary o ty a b).is_form ≡ true → (by_binary o ty a b).values d ≡ a.values d ++ b.values d
binary_values (binary.Operator o) ty a b d h = operator_values (is_arrow o) (is_product o && (a.is_form || b.is_form)) o ty a b d h
binary_values binary.Both ty a b d h = let none : false ≡ true = h in absurd cc
binary_values binary.If ty a b d h = let none : false ≡ true = h in absurd cc

map-append : {A B : Type 0} (f : A → B) (xs ys : List A) → map f (xs ++ ys) ≡ map f xs ++ map f ys
map-append f [] ys = refl
map-append f (x ∷ xs) ys = ap (λ zs. f x ∷ zs) (map-append f xs ys)

pub part_defined : (t a : Term) (o : Unary) (d x : ℕ) (before : Option Term) → t.head ≡ head.Unary o a → (narrowed t).is_form ≡ true
    → step.joined_on before (step.defined_values (narrowed a) d x) ≡ step.joined_on before (step.defined_values (narrowed t) d x)
part_defined t a o d x before p h =
    let e = at.unary_is t a o p in
    ap (λ vs. step.joined_on before (map (λ v. is_defined (shift d x v)) vs)) (sym (ap (λ n. n.values d) e ∙ unary_values o _ (narrowed a) d (sym (ap (λ n. n.is_form) e) ∙ h)))

pub parts_defined : (t a b : Term) (o : Binary) (d x : ℕ) (before : Option Term) → t.head ≡ head.Binary o a b → (narrowed t).is_form ≡ true
    → step.joined_on (step.joined_on before (step.defined_values (narrowed a) d x)) (step.defined_values (narrowed b) d x) ≡ step.joined_on before (step.defined_values (narrowed t) d x)
parts_defined t a b o d x before p h =
    let e = at.binary_is t a b o p in
    sym (ap (λ vs. step.joined_on before (map (λ v. is_defined (shift d x v)) vs)) (ap (λ n. n.values d) e ∙ binary_values o _ (narrowed a) (narrowed b) d (sym (ap (λ n. n.is_form) e) ∙ h))
    ∙ (ap (step.joined_on before) (map-append (λ v. is_defined (shift d x v)) ((narrowed a).values d) ((narrowed b).values d))
    ∙ joined_twice before (step.defined_values (narrowed a) d x) (step.defined_values (narrowed b) d x)))
