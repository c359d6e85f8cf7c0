-- Typed terms that fit are Undefined or have values of their types: by induction on what types them.
use Rattle.std.proofs.Common.{◌≡◌, ◌∙◌, pos, negsuc, ◌≤ℤ◌, true, ◌&&◌, ◌++◌, List, [], ◌∷◌, map, Some, None, option_and_then, refl, sym, subst}
use Rattle.std.specs.List.{list_all, slice_get}
use Rattle.std.specs.Cmp.{first_so, second_so}
use Rattle.type_table.specs.Rows.{Sort, expression, sort, relation, prefix_row, call_row, inverse_row, operator_row}
use Rattle.eb_value.specs.declared.scope.Scope.{Scope}
use Rattle.eb_value.specs.declared.types.EbType.{EbType}
use Rattle.eb_value.specs.declared.value.Value.{Value}
use Rattle.eb_value.specs.Types.{integer, product, power}
use Rattle.eb_value.specs.Scopes.{vals}
use Rattle.eb_term.specs.declared.operators.Unary.{Unary}
use Rattle.eb_term.specs.declared.operators.Unary.TheVariants as unary
use Rattle.eb_term.specs.declared.operators.Binary.{Binary}
use Rattle.eb_term.specs.declared.operators.Binary.TheVariants as binary
use Rattle.eb_term.specs.declared.operators.Many.TheVariants as many
use Rattle.eb_term.specs.declared.operators.Binder.TheVariants as binder
use Rattle.eb_term.specs.declared.term.Term.{Term}
use Rattle.eb_term.specs.Terms as term
use Rattle.eb_term.specs.Typed.{HasSort, HaveSort, of_two, part_type_at}
use Rattle.eb_term.specs.Typed as typing
use Rattle.eb_meaning.specs.Meaning.{Slot, Env, Meaning, meaning, value_of, truth_in, inside, slot_at, part_of, part_at}
use Rattle.eb_meaning.specs.Fitting.{slot_has_type, fits, AreOfTypes}
use Rattle.eb_meaning.proofs.Hypotheses.{Laws}
use Rattle.eb_meaning.proofs.Lists.{both_so}
use Rattle.eb_meaning.proofs.MeaningAt as at
use Rattle.eb_meaning.proofs.TypedOperations.{on_slot}
use Rattle.eb_meaning.proofs.TypedOperators.{IsOf, operator_fits, call_fits, inverse_fits, prefix_fits}
use Rattle.eb_meaning.proofs.TypedParts.{AllFit, part_of_two_fits, path_fits, bound_fits, one_more, instances_fit, range_fits, extension_fits, chosen_fits, vals_fit, identity_fits, projection_fits}

-- the environment of these references and enclosing values
abbrev env_of : List Slot → List Value → Env
env_of refs bound = record { refs = refs; bound = bound }

-- each of the terms is of the sort
abbrev AreOf : Scope → Env → Sort → List Term → Type 0
AreOf scope env s [] = Unit {0}
AreOf scope env s (e ∷ es) = IsOf scope s (value_of scope env e) × AreOf scope env s es

all_fit : (scope : Scope) (env : Env) (t : EbType) (es : List Term) → AreOf scope env (expression t) es → AllFit scope t (map (λ m. m.value env) (map (meaning scope) es))
all_fit scope env t [] h = refl
all_fit scope env t (e ∷ es) h = both_so (slot_has_type scope (value_of scope env e) t) (list_all (λ o. slot_has_type scope o t) (map (λ m. m.value env) (map (meaning scope) es))) h.0 (all_fit scope env t es h.1)

-- what a term is of, by its meaning
by_meaning : (scope : Scope) (env : Env) (s : Sort) (t : Term) (m : Meaning) → meaning scope t ≡ m → IsOf scope s (m.value env) → IsOf scope s (value_of scope env t)
by_meaning scope env s t m e h = subst (λ n. IsOf scope s (n.value env)) (sym e) h

by_value : (scope : Scope) (env : Env) (s : Sort) (t : Term) (o : Slot) → value_of scope env t ≡ o → IsOf scope s o → IsOf scope s (value_of scope env t)
by_value scope env s t o e h = subst (IsOf scope s) (sym e) h

module _ (laws : Laws) (scope : Scope) (low : negsuc 4611686018427387903 ≤ℤ scope.lo) (high : scope.hi ≤ℤ pos 4611686018427387904) (refs : List Slot) where
  part_fits_one : (o : Unary) (a : Term) → fits scope refs (term.unary o a) ≡ true → fits scope refs a ≡ true
  part_fits_one o a f = sym (at.fits-unary scope refs o a) ∙ f

  part_fits_left : (o : Binary) (a b : Term) → fits scope refs (term.binary o a b) ≡ true → fits scope refs a ≡ true
  part_fits_left o a b f = first_so (fits scope refs a) (fits scope refs b) (sym (at.fits-binary scope refs o a b) ∙ f)

  part_fits_right : (o : Binary) (a b : Term) → fits scope refs (term.binary o a b) ≡ true → fits scope refs b ≡ true
  part_fits_right o a b f = second_so (fits scope refs a) (fits scope refs b) (sym (at.fits-binary scope refs o a b) ∙ f)

  mutual
    typed : {types : List EbType} {t : Term} {s : Sort} → HasSort types t s → (bound : List Value) → fits scope refs t ≡ true → AreOfTypes scope bound types → IsOf scope s (value_of scope (env_of refs bound) t)
    typed (typing.truth b) bound f h = tt
    typed (typing.literal v t) bound f h = by_value scope (env_of refs bound) (expression t) (term.literal v t) (Some v) (at.value-literal scope (env_of refs bound) v t) (sym (at.fits-literal scope refs v t) ∙ f)
    typed (typing.reference place t) bound f h = by_value scope (env_of refs bound) (expression t) (term.reference place t) (slot_at refs place) (at.value-reference scope (env_of refs bound) place t) (sym (at.fits-reference scope refs place t) ∙ f)
    typed (typing.variable {bound = types} k path whole t p q) bound f h =
        by_value scope (env_of refs bound) (expression t) (term.variable k path t) (option_and_then (part_at path) (slice_get bound k)) (at.value-variable scope (env_of refs bound) k path t)
        (on_slot scope whole t (part_at path) (slice_get bound k) (bound_fits scope bound types k whole h p) (λ v r. path_fits scope path whole t v q r))
    typed (typing.infinite i) bound f h = by_value scope (env_of refs bound) (expression (power integer)) (term.infinite i) None (at.value-infinite scope (env_of refs bound) i) refl
    typed (typing.identity t) bound f h = by_value scope (env_of refs bound) (expression (relation t t)) (term.identity t) _ (at.value-identity scope (env_of refs bound) t) (identity_fits laws scope low high t)
    typed (typing.projection x a b) bound f h = by_value scope (env_of refs bound) (expression (relation (product a b) (of_two x a b))) (term.projection x a b) _ (at.value-projection scope (env_of refs bound) x a b) (projection_fits laws scope low high x a b)
    typed (typing.prefix {a = a} o v d) bound f h =
        by_meaning scope (env_of refs bound) (sort v (prefix_row o).whole) (term.unary (unary.Prefix o) a) _ (at.meaning-unary scope (unary.Prefix o) a)
        (prefix_fits laws scope o v (env_of refs bound) (meaning scope a) (typed d bound (part_fits_one (unary.Prefix o) a f) h))
    typed (typing.call {a = a} o v d) bound f h =
        by_meaning scope (env_of refs bound) (sort v (call_row o).whole) (term.unary (unary.Call o) a) _ (at.meaning-unary scope (unary.Call o) a)
        (call_fits laws scope o v (env_of refs bound) (meaning scope a) (typed d bound (part_fits_one (unary.Call o) a f) h))
    typed (typing.inverse {a = a} v d) bound f h =
        by_meaning scope (env_of refs bound) (sort v inverse_row.whole) (term.unary unary.Inverse a) _ (at.meaning-unary scope unary.Inverse a)
        (inverse_fits laws scope v (value_of scope (env_of refs bound) a) (typed d bound (part_fits_one unary.Inverse a f) h))
    typed (typing.defined t d) bound f h = tt
    typed (typing.functional s t d) bound f h = tt
    typed (typing.part {a = a} x s t d) bound f h =
        by_meaning scope (env_of refs bound) (expression (of_two x s t)) (term.unary (unary.Part x) a) _ (at.meaning-unary scope (unary.Part x) a)
        (on_slot scope (product s t) (of_two x s t) (part_of x) (value_of scope (env_of refs bound) a) (typed d bound (part_fits_one (unary.Part x) a f) h) (λ v r. part_of_two_fits scope x s t v r))
    typed (typing.operator {a = a} {b = b} o v d e) bound f h =
        by_meaning scope (env_of refs bound) (sort v (operator_row o).whole) (term.binary (binary.Operator o) a b) _ (at.meaning-binary scope (binary.Operator o) a b)
        (operator_fits laws scope o v (value_of scope (env_of refs bound) a) (value_of scope (env_of refs bound) b)
        (typed d bound (part_fits_left (binary.Operator o) a b f) h) (typed e bound (part_fits_right (binary.Operator o) a b f) h))
    typed (typing.both d e) bound f h = tt
    typed (typing.«if» {p = p} {s = s} t d e) bound f h =
        by_meaning scope (env_of refs bound) (expression (power t)) (term.binary binary.If p s) _ (at.meaning-binary scope binary.If p s)
        (chosen_fits laws scope t (truth_in scope (env_of refs bound) p) (value_of scope (env_of refs bound) s) (typed e bound (part_fits_right binary.If p s f) h))
    typed (typing.extension {e = e} {es = es} t d) bound f h =
        by_meaning scope (env_of refs bound) (expression (power t)) (term.many many.Extension (e ∷ es)) _ (at.meaning-many scope many.Extension (e ∷ es))
        (extension_fits laws scope t (map (λ m. m.value (env_of refs bound)) (map (meaning scope) (e ∷ es)))
        (all_fit scope (env_of refs bound) t (e ∷ es) (all_typed d bound (sym (at.fits-many scope refs many.Extension (e ∷ es)) ∙ f) h)))
    typed (typing.partition t d) bound f h = tt
    typed (typing.quantified_over o t q d e) bound f h = tt
    typed (typing.quantified o t q d) bound f h = tt
    typed (typing.collected_over {bound = types} {e = e} {s = s} t u d g) bound f h =
        let parts : (fits scope refs e && fits scope refs s) ≡ true = sym (at.fits-over scope refs binder.Collect e s) ∙ f in
        by_meaning scope (env_of refs bound) (expression (power u)) (term.over binder.Collect e s) _ (at.meaning-over scope binder.Collect e s)
        (range_fits laws scope t u (λ v. value_of scope (inside (env_of refs bound) v) s) (value_of scope (env_of refs bound) e) (typed d bound (first_so (fits scope refs e) (fits scope refs s) parts) h)
        (λ v r. typed g (bound ++ v ∷ []) (second_so (fits scope refs e) (fits scope refs s) parts) (one_more scope bound types v t h r)))
    typed (typing.collected {bound = types} {s = s} t u g) bound f h =
        by_meaning scope (env_of refs bound) (expression (power u)) (term.all binder.Collect t s) _ (at.meaning-all scope binder.Collect t s)
        (instances_fit laws scope t u (λ v. value_of scope (inside (env_of refs bound) v) s) (vals scope t) (vals_fit laws scope low high t)
        (λ v r. typed g (bound ++ v ∷ []) (sym (at.fits-all scope refs binder.Collect t s) ∙ f) (one_more scope bound types v t h r)))

    all_typed : {types : List EbType} {es : List Term} {s : Sort} → HaveSort types es s → (bound : List Value) → list_all (fits scope refs) es ≡ true → AreOfTypes scope bound types → AreOf scope (env_of refs bound) s es
    all_typed typing.none bound f h = tt
    all_typed (typing.more {e = e} {es = es} d ds) bound f h = (typed d bound (first_so (fits scope refs e) (list_all (fits scope refs) es) f) h, all_typed ds bound (second_so (fits scope refs e) (list_all (fits scope refs) es) f) h)

pub typed_value : Laws → (scope : Scope) → negsuc 4611686018427387903 ≤ℤ scope.lo → scope.hi ≤ℤ pos 4611686018427387904
    → (types : List EbType) (t : Term) (ty : EbType) (refs : List Slot) (bound : List Value) → HasSort types t (expression ty) → fits scope refs t ≡ true → AreOfTypes scope bound types
    → slot_has_type scope (value_of scope (record { refs = refs; bound = bound }) t) ty ≡ true
typed_value laws scope low high types t ty refs bound d f h = typed laws scope low high refs d bound f h
