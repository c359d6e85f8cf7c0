-- What is written for a typed predicate says where it is defined: by induction on what types it.
use Rattle.std.proofs.Common.{◌≡◌, ◌∙◌, ◌↔◌, ◌<◌, suc, length, Bool, pos, negsuc, ◌≤ℤ◌, true, ◌&&◌, ◌++◌, List, [], ◌∷◌, map, refl, sym, ap, ap₂, subst, arith, rules}
use Rattle.std.specs.List.{Contains, list_all}
use Rattle.std.specs.Cmp.{first_so, second_so}
use Rattle.type_table.specs.Rows.{Sort, predicate, expression, sort, relation, prefix_row, call_row, inverse_row, operator_row}
use Rattle.eb_value.specs.declared.scope.Scope.{Scope}
use Rattle.eb_value.specs.declared.types.EbType.{EbType}
use Rattle.eb_value.specs.declared.value.Value.{Value}
use Rattle.eb_value.specs.Types.{integer, power}
use Rattle.eb_value.specs.Scopes.{vals}
use Rattle.eb_value.specs.Typing.{has_type, have_type, is_bounded}
use Rattle.eb_term.specs.declared.operators.Unary.{Unary}
use Rattle.eb_term.specs.declared.operators.Unary.TheVariants as unary
use Rattle.eb_term.specs.declared.operators.Binary.{Binary}
use Rattle.eb_term.specs.declared.operators.Binary.TheVariants as binary
use Rattle.eb_term.specs.declared.operators.Many.TheVariants as many
use Rattle.eb_term.specs.declared.operators.Binder.{Binder}
use Rattle.eb_term.specs.declared.operators.Binder.TheVariants as binder
use Rattle.eb_term.specs.declared.term.Term.{Term, the_lemmas}
use Rattle.eb_term.specs.Terms as term
use Rattle.eb_term.specs.Typed.{HasSort, HaveSort, IsQuantifier, of_two}
use Rattle.eb_term.specs.Typed as typing
use Rattle.eb_meaning.specs.Truths.{truth_of, is_defined}
use Rattle.eb_meaning.specs.Meaning.{Slot, Env, Meaning, meaning, value_of, truth_in, inside, is_value, is_partition, by_unary}
use Rattle.eb_meaning.specs.Fitting.{slot_has_type, fits, AreOfTypes}
use Rattle.eb_wd.specs.WellDefined.{Conditions}
use Rattle.eb_wd.specs.WellDefined as wd
use Rattle.eb_wd.proofs.MeaningAt.{has_value_in, meaning-unary, meaning-binary, meaning-many, meaning-over, meaning-all, fits-unary, fits-binary, fits-over, fits-all}
use Rattle.eb_wd.proofs.ConditionsAt.{conditions, kept, all_terms_kept, conditions-truth, conditions-literal, conditions-reference, conditions-variable, conditions-infinite, conditions-identity, conditions-projection, conditions-unary, conditions-binary, conditions-many, conditions-over, conditions-all}
use Rattle.eb_wd.proofs.Truths.{saying, saying-truth_of, saying-strict, saying-all_values}
use Rattle.eb_wd.proofs.TypedSlots.{Fits, IsOf}
use Rattle.eb_wd.proofs.Judged.{IsGivenBy, Judged, have_values_in, expression_judged, all_defined_says, of_both, operator_judged, prefix_judged, call_judged, plain_one, functional_judged, for_all_over_judged, exists_over_judged, for_all_judged, exists_judged}

-- what the proofs take of the clauses of the crates below, as hypotheses
pub record Laws : Type 0 where
  pub complete : (scope : Scope) → negsuc 4611686018427387903 ≤ℤ scope.lo → scope.hi ≤ℤ pos 4611686018427387904 → (ty : EbType) (v : Value) → Contains (vals scope ty) v ↔ ((has_type scope v ty ≡ true) × (is_bounded scope v ≡ true))
  pub typed : (scope : Scope) → negsuc 4611686018427387903 ≤ℤ scope.lo → scope.hi ≤ℤ pos 4611686018427387904
      → (types : List EbType) (t : Term) (ty : EbType) (refs : List Slot) (bound : List Value) → HasSort types t (expression ty) → fits scope refs t ≡ true → AreOfTypes scope bound types
      → slot_has_type scope (value_of scope (record { refs = refs; bound = bound }) t) ty ≡ true

abbrev env_of : List Slot → List Value → Env
env_of refs bound = record { refs = refs; bound = bound }

-- ---- all values of a type, and one more enclosing value

contains_here : {A : Type 0} (x : A) (xs : List A) → Contains (x ∷ xs) x
contains_here x xs = (0, omega arith, refl)

contains_there : {A : Type 0} (x : A) (xs : List A) (v : A) → Contains xs v → Contains (x ∷ xs) v
contains_there x xs v h = let l : h.0 < length xs = h.1 in (suc h.0, omega arith, h.2)

so_all : {A : Type 0} (p : A → Bool) (xs : List A) → ((v : A) → Contains xs v → p v ≡ true) → list_all p xs ≡ true
so_all p [] h = refl
so_all p (x ∷ xs) h = ap₂ (λ a b. a && b) (h x (contains_here x xs)) (so_all p xs (λ v m. h v (contains_there x xs v m)))

one_more : (scope : Scope) (bound : List Value) (types : List EbType) (v : Value) (t : EbType) → AreOfTypes scope bound types → has_type scope v t ≡ true → AreOfTypes scope (bound ++ v ∷ []) (types ++ t ∷ [])
one_more scope [] [] v t h k = (k, tt)
one_more scope [] (u ∷ us) v t h k = absurd h
one_more scope (w ∷ ws) [] v t h k = absurd h
one_more scope (w ∷ ws) (u ∷ us) v t h k = (h.0, one_more scope ws us v t h.1 k)

-- ---- terms by their meaning and their conditions

by_both : (scope : Scope) (env : Env) (s : Sort) (t : Term) (m : Meaning) (k : Conditions) → meaning scope t ≡ m → conditions t ≡ k → Judged scope env s m k → Judged scope env s (meaning scope t) (conditions t)
by_both scope env s t m k e g h = subst (λ n. Judged scope env s n (conditions t)) (sym e) (subst (Judged scope env s m) (sym g) h)

-- an expression that is given where it has a value
by_value : (scope : Scope) (env : Env) (t : Term) → conditions t ≡ wd.expression t → (meaning scope t).is_given env ≡ is_value ((meaning scope t).value env) → IsGivenBy scope env (meaning scope t) (conditions t)
by_value scope env t g h = subst (IsGivenBy scope env (meaning scope t)) (sym g) (expression_judged scope env (meaning scope t) t refl h)

-- and where the conditions are written for the term that it keeps
by_kept : (scope : Scope) (env : Env) (t other : Term) → conditions t ≡ wd.expression other → (meaning scope t).is_given env ≡ is_value ((meaning scope t).value env) → IsGivenBy scope env (meaning scope t) (conditions t)
by_kept scope env t other g h = by_value scope env t (g ∙ ap wd.expression (sym (ap (λ k. k.term) g) ∙ kept t)) h

values_of : (scope : Scope) (env : Env) (es : List Term) → list_all is_value (map (λ m. m.value env) (map (meaning scope) es)) ≡ have_values_in scope env es
values_of scope env [] = refl
values_of scope env (e ∷ es) = ap (λ b. has_value_in scope env e && b) (values_of scope env es)

module _ (laws : Laws) (scope : Scope) (low : negsuc 4611686018427387903 ≤ℤ scope.lo) (high : scope.hi ≤ℤ pos 4611686018427387904) (refs : List Slot) where
  left_fits : (o : Binary) (a b : Term) → fits scope refs (term.binary o a b) ≡ true → fits scope refs a ≡ true
  left_fits o a b f = first_so (fits scope refs a) (fits scope refs b) (sym (fits-binary scope refs o a b) ∙ f)

  right_fits : (o : Binary) (a b : Term) → fits scope refs (term.binary o a b) ≡ true → fits scope refs b ≡ true
  right_fits o a b f = second_so (fits scope refs a) (fits scope refs b) (sym (fits-binary scope refs o a b) ∙ f)

  one_fits : (o : Unary) (a : Term) → fits scope refs (term.unary o a) ≡ true → fits scope refs a ≡ true
  one_fits o a f = sym (fits-unary scope refs o a) ∙ f

  vals_typed : (t : EbType) → have_type scope (vals scope t) t ≡ true
  vals_typed t = so_all (λ v. has_type scope v t) (vals scope t) (λ v m. ((laws.complete scope low high t v).0 m).0)

  is_of : {types : List EbType} (t : Term) (s : Sort) → HasSort types t s → (bound : List Value) → fits scope refs t ≡ true → AreOfTypes scope bound types → IsOf scope s (value_of scope (env_of refs bound) t)
  is_of t predicate d bound f h = tt
  is_of {types = types} t (expression ty) d bound f h = laws.typed scope low high types t ty refs bound d f h

  over_by : (o : Binder) → IsQuantifier o → (t : EbType) (e p : Term) (env : Env) → Fits scope (power t) (value_of scope env e)
      → ((v : Value) → has_type scope v t ≡ true → truth_in scope (inside env v) (conditions p).wd ≡ saying (truth_in scope (inside env v) p))
      → Judged scope env predicate (meaning scope (term.over o e p)) (conditions (term.over o e p))
  over_by o typing.for_all t e p env x h = by_both scope env predicate (term.over o e p) _ _ (meaning-over scope o e p) (conditions-over o e p) (for_all_over_judged scope env t e (meaning scope p) (conditions p) x h)
  over_by o typing.exists t e p env x h = by_both scope env predicate (term.over o e p) _ _ (meaning-over scope o e p) (conditions-over o e p) (exists_over_judged scope env t e (meaning scope p) (conditions p) x h)

  all_by : (o : Binder) → IsQuantifier o → (t : EbType) (p : Term) (env : Env)
      → ((v : Value) → has_type scope v t ≡ true → truth_in scope (inside env v) (conditions p).wd ≡ saying (truth_in scope (inside env v) p))
      → Judged scope env predicate (meaning scope (term.all o t p)) (conditions (term.all o t p))
  all_by o typing.for_all t p env h = by_both scope env predicate (term.all o t p) _ _ (meaning-all scope o t p) (conditions-all o t p) (for_all_judged scope env t (meaning scope p) (conditions p) (vals_typed t) h)
  all_by o typing.exists t p env h = by_both scope env predicate (term.all o t p) _ _ (meaning-all scope o t p) (conditions-all o t p) (exists_judged scope env t (meaning scope p) (conditions p) (vals_typed t) h)

  judged : {types : List EbType} {t : Term} {s : Sort} → HasSort types t s → (bound : List Value) → fits scope refs t ≡ true → AreOfTypes scope bound types → Judged scope (env_of refs bound) s (meaning scope t) (conditions t)
  judged (typing.truth b) bound f h = by_both scope (env_of refs bound) predicate (term.truth b) (meaning scope (term.truth b)) _ refl (conditions-truth b) (search (rules, the_lemmas, saying-truth_of b))
  judged (typing.literal v t) bound f h = by_value scope (env_of refs bound) (term.literal v t) (conditions-literal v t) (search (rules, the_lemmas))
  judged (typing.reference place t) bound f h = by_value scope (env_of refs bound) (term.reference place t) (conditions-reference place t) (search (rules, the_lemmas))
  judged (typing.variable {bound = types} k path whole t p q) bound f h = by_value scope (env_of refs bound) (term.variable k path t) (conditions-variable k path t) (search (rules, the_lemmas))
  judged (typing.infinite i) bound f h = by_both scope (env_of refs bound) (expression (power integer)) (term.infinite i) (meaning scope (term.infinite i)) _ refl (conditions-infinite i)
      (record { parts = search (rules, the_lemmas); plain = λ p. absurd (cc (p)) })
  judged (typing.identity t) bound f h = by_value scope (env_of refs bound) (term.identity t) (conditions-identity t) (search (rules, the_lemmas))
  judged (typing.projection x a b) bound f h = by_value scope (env_of refs bound) (term.projection x a b) (conditions-projection x a b) (search (rules, the_lemmas))
  judged (typing.prefix {a = a} o v d) bound f h =
      by_both scope (env_of refs bound) (sort v (prefix_row o).whole) (term.unary (unary.Prefix o) a) _ _ (meaning-unary scope (unary.Prefix o) a) (conditions-unary (unary.Prefix o) a)
      (prefix_judged scope (env_of refs bound) o v (meaning scope a) (conditions a) (ap (meaning scope) (kept a)) (judged d bound (one_fits (unary.Prefix o) a f) h))
  judged (typing.call {a = a} o v d) bound f h =
      by_both scope (env_of refs bound) (sort v (call_row o).whole) (term.unary (unary.Call o) a) _ _ (meaning-unary scope (unary.Call o) a) (conditions-unary (unary.Call o) a)
      (call_judged scope (env_of refs bound) o v (meaning scope a) (conditions a) (ap (meaning scope) (kept a)) (judged d bound (one_fits (unary.Call o) a f) h))
  judged (typing.inverse {a = a} v d) bound f h =
      by_both scope (env_of refs bound) (sort v inverse_row.whole) (term.unary unary.Inverse a) _ _ (meaning-unary scope unary.Inverse a) (conditions-unary unary.Inverse a)
      (plain_one scope (env_of refs bound) unary.Inverse (meaning scope a) (conditions a) (ap (meaning scope) (kept a)) refl)
  judged (typing.defined {a = a} t d) bound f h =
      by_both scope (env_of refs bound) predicate (term.unary unary.Defined a) (by_unary unary.Defined (meaning scope a)) _ (meaning-unary scope unary.Defined a) (conditions-unary unary.Defined a)
      (search (rules, the_lemmas, saying-truth_of (is_value (value_of scope (env_of refs bound) a))))
  judged (typing.functional {a = a} s t d) bound f h =
      by_both scope (env_of refs bound) predicate (term.unary unary.Functional a) _ _ (meaning-unary scope unary.Functional a) (conditions-unary unary.Functional a)
      (functional_judged scope (env_of refs bound) s t (meaning scope a) (conditions a) (ap (meaning scope) (kept a)) (is_of a (expression (relation s t)) d bound (one_fits unary.Functional a f) h))
  judged (typing.part {a = a} x s t d) bound f h =
      by_both scope (env_of refs bound) (expression (of_two x s t)) (term.unary (unary.Part x) a) _ _ (meaning-unary scope (unary.Part x) a) (conditions-unary (unary.Part x) a)
      (plain_one scope (env_of refs bound) (unary.Part x) (meaning scope a) (conditions a) (ap (meaning scope) (kept a)) refl)
  judged (typing.operator {a = a} {b = b} o v d e) bound f h =
      by_both scope (env_of refs bound) (sort v (operator_row o).whole) (term.binary (binary.Operator o) a b) _ _ (meaning-binary scope (binary.Operator o) a b) (conditions-binary (binary.Operator o) a b)
      (operator_judged scope (env_of refs bound) o v (meaning scope a) (meaning scope b) (conditions a) (conditions b) (ap (meaning scope) (kept a)) (ap (meaning scope) (kept b))
      (is_of a (sort v (operator_row o).left) d bound (left_fits (binary.Operator o) a b f) h) (is_of b (sort v (operator_row o).right) e bound (right_fits (binary.Operator o) a b f) h)
      (judged d bound (left_fits (binary.Operator o) a b f) h) (judged e bound (right_fits (binary.Operator o) a b f) h))
  judged (typing.both {p = p} {q = q} d e) bound f h =
      by_both scope (env_of refs bound) predicate (term.binary binary.Both p q) _ _ (meaning-binary scope binary.Both p q) (conditions-binary binary.Both p q)
      (of_both scope (env_of refs bound) (meaning scope p) (meaning scope q) (conditions p) (conditions q) (judged d bound (left_fits binary.Both p q f) h) (judged e bound (right_fits binary.Both p q f) h)
      ∙ saying-strict (λ a b. a && b) (truth_in scope (env_of refs bound) p) (truth_in scope (env_of refs bound) q))
  judged (typing.«if» {p = p} {s = s} t d e) bound f h = by_kept scope (env_of refs bound) (term.binary binary.If p s) _ (conditions-binary binary.If p s) (search (rules, the_lemmas))
  judged (typing.extension {e = e} {es = es} t d) bound f h = by_kept scope (env_of refs bound) (term.many many.Extension (e ∷ es)) _ (conditions-many many.Extension (e ∷ es)) (search (rules, the_lemmas))
  judged (typing.partition {e = e} {es = es} t d) bound f h =
      by_both scope (env_of refs bound) predicate (term.many many.Partition (e ∷ es)) _ _ (meaning-many scope many.Partition (e ∷ es)) (conditions-many many.Partition (e ∷ es))
      (ap (λ ts. truth_in scope (env_of refs bound) (wd.all_defined ts)) (all_terms_kept (e ∷ es)) ∙ all_defined_says scope (env_of refs bound) (e ∷ es) ∙ ap truth_of (sym (values_of scope (env_of refs bound) (e ∷ es)))
      ∙ saying-all_values is_partition (map (λ m. m.value (env_of refs bound)) (map (meaning scope) (e ∷ es))))
  judged (typing.quantified_over {bound = types} {e = e} {p = p} o t q d g) bound f h =
      let parts : (fits scope refs e && fits scope refs p) ≡ true = sym (fits-over scope refs o e p) ∙ f in
      over_by o q t e p (env_of refs bound) (is_of e (expression (power t)) d bound (first_so (fits scope refs e) (fits scope refs p) parts) h)
      (λ v r. judged g (bound ++ v ∷ []) (second_so (fits scope refs e) (fits scope refs p) parts) (one_more scope bound types v t h r))
  judged (typing.quantified {bound = types} {p = p} o t q g) bound f h =
      all_by o q t p (env_of refs bound) (λ v r. judged g (bound ++ v ∷ []) (sym (fits-all scope refs o t p) ∙ f) (one_more scope bound types v t h r))
  judged (typing.collected_over {e = e} {s = s} t u d g) bound f h = by_kept scope (env_of refs bound) (term.over binder.Collect e s) _ (conditions-over binder.Collect e s) (search (rules, the_lemmas))
  judged (typing.collected {s = s} t u g) bound f h = by_kept scope (env_of refs bound) (term.all binder.Collect t s) _ (conditions-all binder.Collect t s) (search (rules, the_lemmas))

pub says_what_is_defined : Laws → (scope : Scope) → negsuc 4611686018427387903 ≤ℤ scope.lo → scope.hi ≤ℤ pos 4611686018427387904
    → (types : List EbType) (t : Term) (refs : List Slot) (bound : List Value) → HasSort types t predicate → fits scope refs t ≡ true → AreOfTypes scope bound types
    → truth_in scope (record { refs = refs; bound = bound }) (wd.wd t) ≡ truth_of (is_defined (truth_in scope (record { refs = refs; bound = bound }) t))
says_what_is_defined laws scope low high types t refs bound d f h = judged laws scope low high refs d bound f h
