-- Narrow form keeps the meaning: by induction on what types a term, in every environment that fits.
use Rattle.std.proofs.Common.{◌≡◌, ◌∙◌, ℕ, pos, negsuc, ◌≤ℤ◌, Bool, true, ◌&&◌, List, [], ◌∷◌, ◌++◌, length, map, Option, Some, option_map, refl, sym, ap, ap₂, subst, rules}
use Rattle.std.specs.List.{Contains, list_all, flat_map}
use Rattle.std.specs.Cmp.{first_so, second_so}
use Rattle.type_table.specs.Rows.{Sort, predicate, expression, sort, relation, prefix_row, call_row, inverse_row, operator_row}
use Rattle.eb_value.specs.declared.scope.Scope.{Scope}
use Rattle.eb_value.specs.declared.types.EbType.{EbType}
use Rattle.eb_value.specs.declared.value.Value.{Value}
use Rattle.eb_value.specs.Types.{integer, product, power}
use Rattle.eb_value.specs.Values.{pair, set}
use Rattle.eb_value.specs.Scopes.{vals}
use Rattle.eb_value.specs.Typing.{has_type, have_type}
use Rattle.eb_value.specs.Comprehensions as sets
use Rattle.eb_value.specs.Comprehensions.{members}
use Rattle.eb_term.specs.declared.operators.Unary.{Unary}
use Rattle.eb_term.specs.declared.operators.Unary.TheVariants as unary
use Rattle.eb_term.specs.declared.operators.Binary.{Binary}
use Rattle.eb_term.specs.declared.operators.Binary.TheVariants as binary
use Rattle.eb_term.specs.declared.operators.Many.{Many}
use Rattle.eb_term.specs.declared.operators.Many.TheVariants as many
use Rattle.eb_term.specs.declared.operators.Binder.{Binder}
use Rattle.eb_term.specs.declared.operators.Binder.TheVariants as binder
use Rattle.eb_term.specs.declared.operators.Infinite.{Infinite}
use Rattle.eb_term.specs.declared.operators.Side.{Side}
use Rattle.eb_term.specs.declared.term.Term.{Term}
use Rattle.eb_term.specs.declared.term.Head.{the_lemmas}
use Rattle.eb_term.specs.declared.term.Head.TheOpen as head
use Rattle.eb_term.specs.Terms as term
use Rattle.eb_term.specs.Typed.{HasSort, HaveSort, of_two}
use Rattle.eb_term.specs.Typed as typing
use Rattle.eb_meaning.specs.Truths.{truth_of}
use Rattle.eb_meaning.specs.Meaning.{Slot, Env, Meaning, meaning, value_of, truth_in, slot_at, variable_at, all_values, maplet_of_projection}
use Rattle.eb_meaning.specs.Meaning as means
use Rattle.eb_meaning.specs.Fitting.{slot_has_type, fits, AreOfTypes}
use Rattle.term_types.specs.Types.{type_step, type_by_unary, type_by_binary, type_by_many, type_by_binder}
use Rattle.eb_narrow.specs.Narrow as narrow
use Rattle.eb_narrow.specs.Narrow.{Narrowed, narrowed}
use Rattle.eb_narrow.proofs.Hypotheses.{Laws}
use Rattle.eb_narrow.proofs.Sights.{seen, of_value}
use Rattle.eb_narrow.proofs.Shifts.{env_of, variable_is, unary_is, binary_is, many_is, over_is, all_is}
use Rattle.eb_narrow.proofs.Views.{both_so}
use Rattle.eb_narrow.proofs.Members.{contains_here, contains_there}
use Rattle.eb_narrow.proofs.Represents.{Fits, plain_represents}
use Rattle.eb_narrow.proofs.Forms.{infinite_represents}
use Rattle.eb_narrow.proofs.Operators.{KeepsAs, IsOf, operator_keeps}
use Rattle.eb_narrow.proofs.Binders.{members_of_range, exists_keeps, for_all_keeps, collected_keeps, identity_keeps, projection_keeps}
use Rattle.eb_narrow.proofs.Calls.{prefix_keeps, call_keeps, inverse_keeps, part_keeps, defined_keeps, functional_keeps, both_keeps, if_keeps}
use Rattle.eb_narrow.proofs.Partitions.{partition_keeps}

-- ---- terms by their heads

truth_is : (scope : Scope) (b : Bool) → meaning scope (term.truth b) ≡ means.predicate (λ env. truth_of b)
truth_is scope b = search (rules, the_lemmas)

literal_is : (scope : Scope) (v : Value) (t : EbType) → meaning scope (term.literal v t) ≡ means.expression (λ env. Some v)
literal_is scope v t = search (rules, the_lemmas)

reference_is : (scope : Scope) (place : ℕ) (t : EbType) → meaning scope (term.reference place t) ≡ means.expression (λ env. slot_at env.refs place)
reference_is scope place t = search (rules, the_lemmas)

infinite_is : (scope : Scope) (i : Infinite) → meaning scope (term.infinite i) ≡ means.form (λ env. true) (λ env v. means.infinite_has i v)
infinite_is scope i = search (rules, the_lemmas)

identity_is : (scope : Scope) (t : EbType) → meaning scope (term.identity t) ≡ means.expression (λ env. Some (set (sets.set_of (map (λ x. pair x x) (vals scope t)))))
identity_is scope t = search (rules, the_lemmas)

projection_is : (scope : Scope) (s : Side) (a b : EbType) → meaning scope (term.projection s a b) ≡ means.expression (λ env. Some (set (sets.set_of (flat_map (λ x. map (maplet_of_projection s x) (vals scope b)) (vals scope a)))))
projection_is scope s a b = search (rules, the_lemmas)

narrowed-truth : (b : Bool) → narrowed (term.truth b) ≡ narrow.predicate (λ d. term.truth b)
narrowed-truth b = search (rules, the_lemmas)

narrowed-literal : (v : Value) (t : EbType) → narrowed (term.literal v t) ≡ narrow.expression (Some t) (λ d. term.literal v t)
narrowed-literal v t = search (rules, the_lemmas)

narrowed-reference : (place : ℕ) (t : EbType) → narrowed (term.reference place t) ≡ narrow.expression (Some t) (λ d. term.reference place t)
narrowed-reference place t = search (rules, the_lemmas)

narrowed-variable : (k : ℕ) (path : List Side) (t : EbType) → narrowed (term.variable k path t) ≡ narrow.expression (Some t) (λ d. term.variable k path t)
narrowed-variable k path t = search (rules, the_lemmas)

narrowed-infinite : (i : Infinite) → narrowed (term.infinite i) ≡ narrow.infinite_set i
narrowed-infinite i = search (rules, the_lemmas)

narrowed-identity : (t : EbType) → narrowed (term.identity t) ≡ narrow.expression (Some (relation t t)) (narrow.identity t)
narrowed-identity t = search (rules, the_lemmas)

narrowed-projection : (s : Side) (a b : EbType) → narrowed (term.projection s a b) ≡ narrow.expression (type_step (head.Projection s a b)) (narrow.projection s a b)
narrowed-projection s a b = search (rules, the_lemmas)

pub narrowed-unary : (o : Unary) (a : Term) → narrowed (term.unary o a) ≡ narrow.by_unary o (type_by_unary o (narrowed a).ty) (narrowed a)
narrowed-unary o a = search (rules, the_lemmas)

pub narrowed-binary : (o : Binary) (a b : Term) → narrowed (term.binary o a b) ≡ narrow.by_binary o (type_by_binary o (narrowed a).ty (narrowed b).ty) (narrowed a) (narrowed b)
narrowed-binary o a b = search (rules, the_lemmas)

pub narrowed-many : (o : Many) (es : List Term) → narrowed (term.many o es) ≡ narrow.by_many o (type_by_many o (map (λ e. e.ty) (map narrowed es))) (map narrowed es)
narrowed-many o es = search (rules, the_lemmas)

pub narrowed-over : (o : Binder) (range body : Term) → narrowed (term.over o range body) ≡ narrow.by_range o (type_by_binder o (narrowed body).ty) (λ k d p. term.over k ((narrowed range).term d) p) (narrowed body)
narrowed-over o range body = search (rules, the_lemmas)

pub narrowed-all : (o : Binder) (t : EbType) (body : Term) → narrowed (term.all o t body) ≡ narrow.by_range o (type_by_binder o (narrowed body).ty) (λ k d p. term.all k t p) (narrowed body)
narrowed-all o t body = search (rules, the_lemmas)

-- ---- what fits, by its parts

fits-unary : (scope : Scope) (refs : List Slot) (o : Unary) (a : Term) → fits scope refs (term.unary o a) ≡ fits scope refs a
fits-unary scope refs o a = search (rules, the_lemmas)

fits-binary : (scope : Scope) (refs : List Slot) (o : Binary) (a b : Term) → fits scope refs (term.binary o a b) ≡ (fits scope refs a && fits scope refs b)
fits-binary scope refs o a b = search (rules, the_lemmas)

fits-many_by : (scope : Scope) (refs : List Slot) (o : Many) (es : List Term) → fits scope refs (term.many o es) ≡ list_all (λ b. b) (map (fits scope refs) es)
fits-many_by scope refs o es = search (rules, the_lemmas)

all-map : (p : Term → Bool) (es : List Term) → list_all (λ b. b) (map p es) ≡ list_all p es
all-map p [] = refl
all-map p (e ∷ es) = ap (λ b. p e && b) (all-map p es)

fits-many : (scope : Scope) (refs : List Slot) (o : Many) (es : List Term) → fits scope refs (term.many o es) ≡ list_all (fits scope refs) es
fits-many scope refs o es = fits-many_by scope refs o es ∙ all-map (fits scope refs) es

fits-over : (scope : Scope) (refs : List Slot) (o : Binder) (range body : Term) → fits scope refs (term.over o range body) ≡ (fits scope refs range && fits scope refs body)
fits-over scope refs o range body = search (rules, the_lemmas)

fits-all : (scope : Scope) (refs : List Slot) (o : Binder) (t : EbType) (body : Term) → fits scope refs (term.all o t body) ≡ fits scope refs body
fits-all scope refs o t body = search (rules, the_lemmas)

one_more : (scope : Scope) (bound : List Value) (types : List EbType) (v : Value) (t : EbType) → AreOfTypes scope bound types → has_type scope v t ≡ true → AreOfTypes scope (bound ++ v ∷ []) (types ++ t ∷ [])
one_more scope [] [] v t h k = (k, tt)
one_more scope [] (u ∷ us) v t h k = absurd h
one_more scope (w ∷ ws) [] v t h k = absurd h
one_more scope (w ∷ ws) (u ∷ us) v t h k = (h.0, one_more scope ws us v t h.1 k)

so_all : {A : Type 0} (p : A → Bool) (xs : List A) → ((v : A) → Contains xs v → p v ≡ true) → list_all p xs ≡ true
so_all p [] h = refl
so_all p (x ∷ xs) h = both_so (p x) (list_all p xs) (h x (contains_here x xs x refl)) (so_all p xs (λ v m. h v (contains_there x xs v m)))

-- ---- the parts of a list

abbrev AllKeep : Scope → List Slot → List Value → Sort → List Term → Type 0
AllKeep scope refs bound s [] = Unit {0}
AllKeep scope refs bound s (e ∷ es) = KeepsAs scope refs bound s (narrowed e) (meaning scope e) × AllKeep scope refs bound s es

abbrev narrow_parts : List Value → List Term → List Term
narrow_parts bound es = map (λ e. e.term (length bound)) (map narrowed es)

values_kept : (scope : Scope) (refs : List Slot) (bound : List Value) (t : EbType) (es : List Term) → AllKeep scope refs bound (expression t) es
    → map (λ m. m.value (env_of refs bound)) (map (meaning scope) (narrow_parts bound es)) ≡ map (λ m. m.value (env_of refs bound)) (map (meaning scope) es)
values_kept scope refs bound t [] h = refl
values_kept scope refs bound t (e ∷ es) h = ap₂ (λ v vs. v ∷ vs) h.0.value (values_kept scope refs bound t es h.1)

values_are : (scope : Scope) (env : Env) (es : List Term) → map (value_of scope env) es ≡ map (λ m. m.value env) (map (meaning scope) es)
values_are scope env [] = refl
values_are scope env (e ∷ es) = ap (λ vs. value_of scope env e ∷ vs) (values_are scope env es)

values_fit : (scope : Scope) (refs : List Slot) (bound : List Value) (t : EbType) (es : List Term) → AllKeep scope refs bound (expression t) es
    → list_all (λ o. slot_has_type scope o t) (map (λ m. m.value (env_of refs bound)) (map (meaning scope) es)) ≡ true
values_fit scope refs bound t [] h = refl
values_fit scope refs bound t (e ∷ es) h =
    both_so (slot_has_type scope (value_of scope (env_of refs bound) e) t) (list_all (λ o. slot_has_type scope o t) (map (λ m. m.value (env_of refs bound)) (map (meaning scope) es))) h.0.fits (values_fit scope refs bound t es h.1)

module _ (laws : Laws) (scope : Scope) (low : negsuc 4611686018427387903 ≤ℤ scope.lo) (high : scope.hi ≤ℤ pos 4611686018427387904) (refs : List Slot) where
  vals_typed : (t : EbType) → have_type scope (vals scope t) t ≡ true
  vals_typed t = so_all (λ v. has_type scope v t) (vals scope t) (λ v m. ((laws.complete scope low high t v).0 m).0)

  all_typed : (t : EbType) (vs : List Value) → Some (vals scope t) ≡ Some vs → have_type scope vs t ≡ true
  all_typed t vs e = let h : vals scope t ≡ vs = cc (e) in subst (λ xs. have_type scope xs t ≡ true) h (vals_typed t)

  is_of : {types : List EbType} {t : Term} (s : Sort) → HasSort types t s → (bound : List Value) → fits scope refs t ≡ true → AreOfTypes scope bound types → IsOf scope s (value_of scope (env_of refs bound) t)
  is_of predicate d bound f h = tt
  is_of {types = types} {t = t} (expression ty) d bound f h = laws.typed scope low high types t ty refs bound d f h

  -- by the meaning
  is_as : {types : List EbType} {t : Term} (s : Sort) (m : Meaning) → meaning scope t ≡ m → HasSort types t s → (bound : List Value) → fits scope refs t ≡ true → AreOfTypes scope bound types → IsOf scope s (m.value (env_of refs bound))
  is_as s m e d bound f h = subst (λ x. IsOf scope s (x.value (env_of refs bound))) e (is_of s d bound f h)

  as_parts : (bound : List Value) (s : Sort) (t : Term) (n : Narrowed) (m : Meaning) → narrowed t ≡ n → meaning scope t ≡ m → KeepsAs scope refs bound s n m → KeepsAs scope refs bound s (narrowed t) (meaning scope t)
  as_parts bound s t n m e f h = subst (λ x. KeepsAs scope refs bound s x (meaning scope t)) (sym e) (subst (λ x. KeepsAs scope refs bound s n x) (sym f) h)

  part_fits_one : (o : Unary) (a : Term) → fits scope refs (term.unary o a) ≡ true → fits scope refs a ≡ true
  part_fits_one o a f = sym (fits-unary scope refs o a) ∙ f

  part_fits_left : (o : Binary) (a b : Term) → fits scope refs (term.binary o a b) ≡ true → fits scope refs a ≡ true
  part_fits_left o a b f = first_so (fits scope refs a) (fits scope refs b) (sym (fits-binary scope refs o a b) ∙ f)

  part_fits_right : (o : Binary) (a b : Term) → fits scope refs (term.binary o a b) ≡ true → fits scope refs b ≡ true
  part_fits_right o a b f = second_so (fits scope refs a) (fits scope refs b) (sym (fits-binary scope refs o a b) ∙ f)

  range_fits : (o : Binder) (e p : Term) → fits scope refs (term.over o e p) ≡ true → fits scope refs e ≡ true
  range_fits o e p f = first_so (fits scope refs e) (fits scope refs p) (sym (fits-over scope refs o e p) ∙ f)

  body_fits : (o : Binder) (e p : Term) → fits scope refs (term.over o e p) ≡ true → fits scope refs p ≡ true
  body_fits o e p f = second_so (fits scope refs e) (fits scope refs p) (sym (fits-over scope refs o e p) ∙ f)

  -- a term that stays
  leaf_keeps : (bound : List Value) (t : Term) (ty : EbType) (value : Env → Slot) → narrowed t ≡ narrow.expression (Some ty) (λ d. t) → meaning scope t ≡ means.expression value → Fits scope ty (value (env_of refs bound)) → KeepsAs scope refs bound (expression ty) (narrowed t) (meaning scope t)
  leaf_keeps bound t ty value e f h =
      as_parts bound (expression ty) t (narrow.expression (Some ty) (λ d. t)) (means.expression value) e f (plain_represents scope refs bound (Some ty) (λ d. t) (value (env_of refs bound)) ty h (ap (seen (env_of refs bound)) f))

  extension_keeps : (bound : List Value) (t : EbType) (es : List Term) → Fits scope (power t) (value_of scope (env_of refs bound) (term.many many.Extension es)) → AllKeep scope refs bound (expression t) es
      → KeepsAs scope refs bound (expression (power t)) (narrowed (term.many many.Extension es)) (meaning scope (term.many many.Extension es))
  extension_keeps bound t es f h =
      let m : Meaning = means.by_many many.Extension (map (meaning scope) es) in
      let ty : Option EbType = type_by_many many.Extension (map (λ e. e.ty) (map narrowed es)) in
      as_parts bound (expression (power t)) (term.many many.Extension es) (narrow.by_many many.Extension ty (map narrowed es)) m (narrowed-many many.Extension es) (many_is scope many.Extension es)
      (plain_represents scope refs bound ty (λ d. term.many many.Extension (map (λ e. e.term d) (map narrowed es))) (m.value (env_of refs bound)) (power t)
      (subst (λ x. Fits scope (power t) (x.value (env_of refs bound))) (many_is scope many.Extension es) f)
      (ap (seen (env_of refs bound)) (many_is scope many.Extension (narrow_parts bound es)) ∙ ap (λ slots. of_value (option_map (λ vs. set (sets.set_of vs)) (all_values slots))) (values_kept scope refs bound t es h)))

  partitions_keep : (bound : List Value) (t : EbType) (e : Term) (es : List Term) → AllKeep scope refs bound (expression (power t)) (e ∷ es)
      → KeepsAs scope refs bound predicate (narrowed (term.many many.Partition (e ∷ es))) (meaning scope (term.many many.Partition (e ∷ es)))
  partitions_keep bound t e es h =
      as_parts bound predicate (term.many many.Partition (e ∷ es)) (narrow.by_many many.Partition (type_by_many many.Partition (map (λ e. e.ty) (map narrowed (e ∷ es)))) (map narrowed (e ∷ es))) (means.by_many many.Partition (map (meaning scope) (e ∷ es)))
      (narrowed-many many.Partition (e ∷ es)) (many_is scope many.Partition (e ∷ es))
      (partition_keeps laws scope (env_of refs bound) t (narrow.set_type (map narrowed (e ∷ es))) ((narrowed e).term (length bound)) (narrow_parts bound es)
      (value_of scope (env_of refs bound) e) (map (λ m. m.value (env_of refs bound)) (map (meaning scope) es)) h.0.value
      (values_are scope (env_of refs bound) (narrow_parts bound es) ∙ values_kept scope refs bound (power t) es h.1) (values_fit scope refs bound (power t) es h.1))

  mutual
    keeps : {types : List EbType} {t : Term} {s : Sort} → HasSort types t s → (bound : List Value) → fits scope refs t ≡ true → AreOfTypes scope bound types → KeepsAs scope refs bound s (narrowed t) (meaning scope t)
    keeps (typing.truth b) bound f h =
        as_parts bound predicate (term.truth b) (narrow.predicate (λ d. term.truth b)) (means.predicate (λ env. truth_of b)) (narrowed-truth b) (truth_is scope b) (ap (λ m. m.truth (env_of refs bound)) (truth_is scope b))
    keeps {types = types} (typing.literal v t) bound f h =
        leaf_keeps bound (term.literal v t) t (λ env. Some v) (narrowed-literal v t) (literal_is scope v t) (is_as {types = types} (expression t) (means.expression (λ env. Some v)) (literal_is scope v t) (typing.literal v t) bound f h)
    keeps {types = types} (typing.reference place t) bound f h =
        leaf_keeps bound (term.reference place t) t (λ env. slot_at env.refs place) (narrowed-reference place t) (reference_is scope place t)
        (is_as {types = types} (expression t) (means.expression (λ env. slot_at env.refs place)) (reference_is scope place t) (typing.reference place t) bound f h)
    keeps {types = types} (typing.variable k path whole t p q) bound f h =
        leaf_keeps bound (term.variable k path t) t (λ env. variable_at env k path) (narrowed-variable k path t) (variable_is scope k path t)
        (is_as {types = types} (expression t) (means.expression (λ env. variable_at env k path)) (variable_is scope k path t) (typing.variable k path whole t p q) bound f h)
    keeps (typing.infinite i) bound f h =
        as_parts bound (expression (power integer)) (term.infinite i) (narrow.infinite_set i) (means.form (λ env. true) (λ env v. means.infinite_has i v)) (narrowed-infinite i) (infinite_is scope i) (infinite_represents laws scope refs bound i)
    keeps {types = types} (typing.identity t) bound f h =
        as_parts bound (expression (relation t t)) (term.identity t) (narrow.expression (Some (relation t t)) (narrow.identity t)) (means.expression (λ env. Some (set (sets.set_of (map (λ x. pair x x) (vals scope t)))))) (narrowed-identity t) (identity_is scope t)
        (identity_keeps laws scope refs bound t (Some (relation t t)) (is_as {types = types} (expression (relation t t)) (means.expression (λ env. Some (set (sets.set_of (map (λ x. pair x x) (vals scope t)))))) (identity_is scope t) (typing.identity t) bound f h))
    keeps {types = types} (typing.projection x a b) bound f h =
        let m : Meaning = means.expression (λ env. Some (set (sets.set_of (flat_map (λ y. map (maplet_of_projection x y) (vals scope b)) (vals scope a))))) in
        as_parts bound (expression (relation (product a b) (of_two x a b))) (term.projection x a b) (narrow.expression (type_step (head.Projection x a b)) (narrow.projection x a b)) m (narrowed-projection x a b) (projection_is scope x a b)
        (projection_keeps laws scope refs bound x a b (relation (product a b) (of_two x a b)) (type_step (head.Projection x a b)) (is_as {types = types} (expression (relation (product a b) (of_two x a b))) m (projection_is scope x a b) (typing.projection x a b) bound f h))
    keeps (typing.prefix {a = a} o v d) bound f h =
        as_parts bound (sort v (prefix_row o).whole) (term.unary (unary.Prefix o) a) (narrow.by_unary (unary.Prefix o) (type_by_unary (unary.Prefix o) (narrowed a).ty) (narrowed a)) (means.by_unary (unary.Prefix o) (meaning scope a)) (narrowed-unary (unary.Prefix o) a) (unary_is scope (unary.Prefix o) a)
        (prefix_keeps laws scope refs bound o v (type_by_unary (unary.Prefix o) (narrowed a).ty) (narrowed a) (meaning scope a) (keeps d bound (part_fits_one (unary.Prefix o) a f) h)
        (is_as (sort v (prefix_row o).whole) (means.by_unary (unary.Prefix o) (meaning scope a)) (unary_is scope (unary.Prefix o) a) (typing.prefix o v d) bound f h))
    keeps (typing.call {a = a} o v d) bound f h =
        as_parts bound (sort v (call_row o).whole) (term.unary (unary.Call o) a) (narrow.by_unary (unary.Call o) (type_by_unary (unary.Call o) (narrowed a).ty) (narrowed a)) (means.by_unary (unary.Call o) (meaning scope a)) (narrowed-unary (unary.Call o) a) (unary_is scope (unary.Call o) a)
        (call_keeps laws scope refs bound o v (type_by_unary (unary.Call o) (narrowed a).ty) (narrowed a) (meaning scope a) (keeps d bound (part_fits_one (unary.Call o) a f) h)
        (is_as (sort v (call_row o).whole) (means.by_unary (unary.Call o) (meaning scope a)) (unary_is scope (unary.Call o) a) (typing.call o v d) bound f h))
    keeps (typing.inverse {a = a} v d) bound f h =
        as_parts bound (sort v inverse_row.whole) (term.unary unary.Inverse a) (narrow.by_unary unary.Inverse (type_by_unary unary.Inverse (narrowed a).ty) (narrowed a)) (means.by_unary unary.Inverse (meaning scope a)) (narrowed-unary unary.Inverse a) (unary_is scope unary.Inverse a)
        (inverse_keeps laws scope refs bound (relation v.for_a v.for_b) (relation v.for_b v.for_a) (type_by_unary unary.Inverse (narrowed a).ty) (narrowed a) (meaning scope a) (keeps d bound (part_fits_one unary.Inverse a f) h)
        (is_as (sort v inverse_row.whole) (means.by_unary unary.Inverse (meaning scope a)) (unary_is scope unary.Inverse a) (typing.inverse v d) bound f h))
    keeps (typing.defined {a = a} t d) bound f h =
        as_parts bound predicate (term.unary unary.Defined a) (narrow.by_unary unary.Defined (type_by_unary unary.Defined (narrowed a).ty) (narrowed a)) (means.by_unary unary.Defined (meaning scope a)) (narrowed-unary unary.Defined a) (unary_is scope unary.Defined a)
        (defined_keeps laws scope refs bound t (type_by_unary unary.Defined (narrowed a).ty) (narrowed a) (meaning scope a) (keeps d bound (part_fits_one unary.Defined a f) h))
    keeps (typing.functional {a = a} s t d) bound f h =
        as_parts bound predicate (term.unary unary.Functional a) (narrow.by_unary unary.Functional (type_by_unary unary.Functional (narrowed a).ty) (narrowed a)) (means.by_unary unary.Functional (meaning scope a)) (narrowed-unary unary.Functional a) (unary_is scope unary.Functional a)
        (functional_keeps laws scope refs bound (relation s t) (type_by_unary unary.Functional (narrowed a).ty) (narrowed a) (meaning scope a) (keeps d bound (part_fits_one unary.Functional a f) h))
    keeps (typing.part {a = a} x s t d) bound f h =
        as_parts bound (expression (of_two x s t)) (term.unary (unary.Part x) a) (narrow.by_unary (unary.Part x) (type_by_unary (unary.Part x) (narrowed a).ty) (narrowed a)) (means.by_unary (unary.Part x) (meaning scope a)) (narrowed-unary (unary.Part x) a) (unary_is scope (unary.Part x) a)
        (part_keeps laws scope refs bound x (product s t) (of_two x s t) (type_by_unary (unary.Part x) (narrowed a).ty) (narrowed a) (meaning scope a) (keeps d bound (part_fits_one (unary.Part x) a f) h)
        (is_as (expression (of_two x s t)) (means.by_unary (unary.Part x) (meaning scope a)) (unary_is scope (unary.Part x) a) (typing.part x s t d) bound f h))
    keeps (typing.operator {a = a} {b = b} o v d e) bound f h =
        let ty : Option EbType = type_by_binary (binary.Operator o) (narrowed a).ty (narrowed b).ty in
        as_parts bound (sort v (operator_row o).whole) (term.binary (binary.Operator o) a b) (narrow.by_binary (binary.Operator o) ty (narrowed a) (narrowed b)) (means.by_binary (binary.Operator o) (meaning scope a) (meaning scope b)) (narrowed-binary (binary.Operator o) a b) (binary_is scope (binary.Operator o) a b)
        (operator_keeps laws scope refs bound o v ty (narrowed a) (narrowed b) (meaning scope a) (meaning scope b) (keeps d bound (part_fits_left (binary.Operator o) a b f) h) (keeps e bound (part_fits_right (binary.Operator o) a b f) h)
        (is_as (sort v (operator_row o).whole) (means.by_binary (binary.Operator o) (meaning scope a) (meaning scope b)) (binary_is scope (binary.Operator o) a b) (typing.operator o v d e) bound f h))
    keeps (typing.both {p = p} {q = q} d e) bound f h =
        as_parts bound predicate (term.binary binary.Both p q) (narrow.by_binary binary.Both (type_by_binary binary.Both (narrowed p).ty (narrowed q).ty) (narrowed p) (narrowed q)) (means.by_binary binary.Both (meaning scope p) (meaning scope q)) (narrowed-binary binary.Both p q) (binary_is scope binary.Both p q)
        (both_keeps laws scope refs bound (type_by_binary binary.Both (narrowed p).ty (narrowed q).ty) (narrowed p) (narrowed q) (meaning scope p) (meaning scope q) (keeps d bound (part_fits_left binary.Both p q f) h) (keeps e bound (part_fits_right binary.Both p q f) h))
    keeps (typing.«if» {p = p} {s = s} t d e) bound f h =
        as_parts bound (expression (power t)) (term.binary binary.If p s) (narrow.by_binary binary.If (type_by_binary binary.If (narrowed p).ty (narrowed s).ty) (narrowed p) (narrowed s)) (means.by_binary binary.If (meaning scope p) (meaning scope s)) (narrowed-binary binary.If p s) (binary_is scope binary.If p s)
        (if_keeps laws scope refs bound (power t) (type_by_binary binary.If (narrowed p).ty (narrowed s).ty) (narrowed p) (narrowed s) (meaning scope p) (meaning scope s) (keeps d bound (part_fits_left binary.If p s f) h) (keeps e bound (part_fits_right binary.If p s f) h)
        (is_as (expression (power t)) (means.by_binary binary.If (meaning scope p) (meaning scope s)) (binary_is scope binary.If p s) (typing.«if» t d e) bound f h))
    keeps (typing.extension {e = e} {es = es} t d) bound f h =
        extension_keeps bound t (e ∷ es) (is_of (expression (power t)) (typing.extension t d) bound f h) (all_keep d bound (sym (fits-many scope refs many.Extension (e ∷ es)) ∙ f) h)
    keeps (typing.partition {e = e} {es = es} t d) bound f h = partitions_keep bound t e es (all_keep d bound (sym (fits-many scope refs many.Partition (e ∷ es)) ∙ f) h)
    keeps (typing.quantified_over {bound = types} {e = e} {p = p} _ t typing.for_all d g) bound f h =
        let r = keeps d bound (range_fits binder.ForAll e p f) h in
        as_parts bound predicate (term.over binder.ForAll e p) (narrow.by_range binder.ForAll (type_by_binder binder.ForAll (narrowed p).ty) (λ k d q. term.over k ((narrowed e).term d) q) (narrowed p)) (means.by_binder binder.ForAll (λ env. option_map members ((meaning scope e).value env)) (meaning scope p)) (narrowed-over binder.ForAll e p) (over_is scope binder.ForAll e p)
        (for_all_keeps laws scope refs bound t (λ k d q. term.over k ((narrowed e).term d) q) (λ env. option_map members (value_of scope env ((narrowed e).term (length bound)))) (λ env. option_map members ((meaning scope e).value env))
        (λ k q. over_is scope k ((narrowed e).term (length bound)) q) (ap (option_map members) r.value) (members_of_range laws scope t (value_of scope (env_of refs bound) e) r.fits) (narrowed p) (meaning scope p)
        (λ v k. keeps g (bound ++ v ∷ []) (body_fits binder.ForAll e p f) (one_more scope bound types v t h k)) (type_by_binder binder.ForAll (narrowed p).ty))
    keeps (typing.quantified_over {bound = types} {e = e} {p = p} _ t typing.exists d g) bound f h =
        let r = keeps d bound (range_fits binder.Exists e p f) h in
        as_parts bound predicate (term.over binder.Exists e p) (narrow.by_range binder.Exists (type_by_binder binder.Exists (narrowed p).ty) (λ k d q. term.over k ((narrowed e).term d) q) (narrowed p)) (means.by_binder binder.Exists (λ env. option_map members ((meaning scope e).value env)) (meaning scope p)) (narrowed-over binder.Exists e p) (over_is scope binder.Exists e p)
        (exists_keeps laws scope refs bound t (λ k d q. term.over k ((narrowed e).term d) q) (λ env. option_map members (value_of scope env ((narrowed e).term (length bound)))) (λ env. option_map members ((meaning scope e).value env))
        (λ k q. over_is scope k ((narrowed e).term (length bound)) q) (ap (option_map members) r.value) (members_of_range laws scope t (value_of scope (env_of refs bound) e) r.fits) (narrowed p) (meaning scope p)
        (λ v k. keeps g (bound ++ v ∷ []) (body_fits binder.Exists e p f) (one_more scope bound types v t h k)) (type_by_binder binder.Exists (narrowed p).ty))
    keeps (typing.quantified {bound = types} {p = p} _ t typing.for_all g) bound f h =
        as_parts bound predicate (term.all binder.ForAll t p) (narrow.by_range binder.ForAll (type_by_binder binder.ForAll (narrowed p).ty) (λ k d q. term.all k t q) (narrowed p)) (means.by_binder binder.ForAll (λ env. Some (vals scope t)) (meaning scope p)) (narrowed-all binder.ForAll t p) (all_is scope binder.ForAll t p)
        (for_all_keeps laws scope refs bound t (λ k d q. term.all k t q) (λ env. Some (vals scope t)) (λ env. Some (vals scope t)) (λ k q. all_is scope k t q) refl (all_typed t) (narrowed p) (meaning scope p)
        (λ v k. keeps g (bound ++ v ∷ []) (sym (fits-all scope refs binder.ForAll t p) ∙ f) (one_more scope bound types v t h k)) (type_by_binder binder.ForAll (narrowed p).ty))
    keeps (typing.quantified {bound = types} {p = p} _ t typing.exists g) bound f h =
        as_parts bound predicate (term.all binder.Exists t p) (narrow.by_range binder.Exists (type_by_binder binder.Exists (narrowed p).ty) (λ k d q. term.all k t q) (narrowed p)) (means.by_binder binder.Exists (λ env. Some (vals scope t)) (meaning scope p)) (narrowed-all binder.Exists t p) (all_is scope binder.Exists t p)
        (exists_keeps laws scope refs bound t (λ k d q. term.all k t q) (λ env. Some (vals scope t)) (λ env. Some (vals scope t)) (λ k q. all_is scope k t q) refl (all_typed t) (narrowed p) (meaning scope p)
        (λ v k. keeps g (bound ++ v ∷ []) (sym (fits-all scope refs binder.Exists t p) ∙ f) (one_more scope bound types v t h k)) (type_by_binder binder.Exists (narrowed p).ty))
    keeps (typing.collected_over {bound = types} {e = e} {s = s} t u d g) bound f h =
        let r = keeps d bound (range_fits binder.Collect e s f) h in
        let m : Meaning = means.by_binder binder.Collect (λ env. option_map members ((meaning scope e).value env)) (meaning scope s) in
        as_parts bound (expression (power u)) (term.over binder.Collect e s) (narrow.by_range binder.Collect (type_by_binder binder.Collect (narrowed s).ty) (λ k d q. term.over k ((narrowed e).term d) q) (narrowed s)) m (narrowed-over binder.Collect e s) (over_is scope binder.Collect e s)
        (collected_keeps laws scope refs bound t (λ k d q. term.over k ((narrowed e).term d) q) (λ env. option_map members (value_of scope env ((narrowed e).term (length bound)))) (λ env. option_map members ((meaning scope e).value env))
        (λ k q. over_is scope k ((narrowed e).term (length bound)) q) (ap (option_map members) r.value) (members_of_range laws scope t (value_of scope (env_of refs bound) e) r.fits) (narrowed s) (meaning scope s) u
        (λ v k. keeps g (bound ++ v ∷ []) (body_fits binder.Collect e s f) (one_more scope bound types v t h k)) (type_by_binder binder.Collect (narrowed s).ty)
        (is_as (expression (power u)) m (over_is scope binder.Collect e s) (typing.collected_over t u d g) bound f h))
    keeps (typing.collected {bound = types} {s = s} t u g) bound f h =
        let m : Meaning = means.by_binder binder.Collect (λ env. Some (vals scope t)) (meaning scope s) in
        as_parts bound (expression (power u)) (term.all binder.Collect t s) (narrow.by_range binder.Collect (type_by_binder binder.Collect (narrowed s).ty) (λ k d q. term.all k t q) (narrowed s)) m (narrowed-all binder.Collect t s) (all_is scope binder.Collect t s)
        (collected_keeps laws scope refs bound t (λ k d q. term.all k t q) (λ env. Some (vals scope t)) (λ env. Some (vals scope t)) (λ k q. all_is scope k t q) refl (all_typed t) (narrowed s) (meaning scope s) u
        (λ v k. keeps g (bound ++ v ∷ []) (sym (fits-all scope refs binder.Collect t s) ∙ f) (one_more scope bound types v t h k)) (type_by_binder binder.Collect (narrowed s).ty)
        (is_as (expression (power u)) m (all_is scope binder.Collect t s) (typing.collected t u g) bound f h))

    all_keep : {types : List EbType} {es : List Term} {s : Sort} → HaveSort types es s → (bound : List Value) → list_all (fits scope refs) es ≡ true → AreOfTypes scope bound types → AllKeep scope refs bound s es
    all_keep typing.none bound f h = tt
    all_keep (typing.more {e = e} {es = es} d ds) bound f h =
        (keeps d bound (first_so (fits scope refs e) (list_all (fits scope refs) es) f) h, all_keep ds bound (second_so (fits scope refs e) (list_all (fits scope refs) es) f) h)

pub kept_value : Laws → (scope : Scope) → negsuc 4611686018427387903 ≤ℤ scope.lo → scope.hi ≤ℤ pos 4611686018427387904
    → (t : Term) (ty : EbType) (refs : List Slot) → HasSort [] t (expression ty) → fits scope refs t ≡ true
    → value_of scope (record { refs = refs; bound = [] }) (narrow.narrow t) ≡ value_of scope (record { refs = refs; bound = [] }) t
kept_value laws scope low high t ty refs d f = (keeps laws scope low high refs d [] f tt).value

pub kept_truth : Laws → (scope : Scope) → negsuc 4611686018427387903 ≤ℤ scope.lo → scope.hi ≤ℤ pos 4611686018427387904
    → (t : Term) (refs : List Slot) → HasSort [] t predicate → fits scope refs t ≡ true
    → truth_in scope (record { refs = refs; bound = [] }) (narrow.narrow t) ≡ truth_in scope (record { refs = refs; bound = [] }) t
kept_truth laws scope low high t refs d f = keeps laws scope low high refs d [] f tt
