-- Narrow form is judged as the term is: by induction on what types the term.
use Rattle.std.proofs.Common.{◌≡◌, ◌∙◌, sym, ap, subst, ℕ, List, [], ◌∷◌, ◌++◌, length, map, Option, Some}
use Rattle.std.specs.List.{AllByRecursion}
use Rattle.eb_value.specs.declared.types.EbType.{EbType}
use Rattle.eb_value.specs.Types.{product, power}
use Rattle.type_table.specs.Rows.{Sort, predicate, expression, sort, relation, inverse_row}
use Rattle.eb_term.specs.declared.operators.Unary.TheVariants as unary
use Rattle.eb_term.specs.declared.operators.Binary.TheVariants as binary
use Rattle.eb_term.specs.declared.operators.Many.TheVariants as many
use Rattle.eb_term.specs.declared.operators.Binder.{Binder}
use Rattle.eb_term.specs.declared.operators.Binder.TheVariants as binder
use Rattle.eb_term.specs.declared.term.Term.{Term}
use Rattle.eb_term.specs.declared.term.Head.TheOpen as head
use Rattle.eb_term.specs.Terms as term
use Rattle.eb_term.specs.Typed.{HasSort, HaveSort, of_two}
use Rattle.eb_term.specs.Typed as typing
use Rattle.narrow_terms.specs.Building.{inverse, functional, part, both}
use Rattle.term_types.specs.Types.{type_in, type_step, type_by_unary, type_by_binary, type_by_many, type_by_binder}
use Rattle.eb_narrow.specs.Narrow as narrow
use Rattle.eb_narrow.specs.Narrow.{Narrowed, narrowed}
use Rattle.narrow_typing.proofs.Judging.{Judges, Gives, BindsAt}
use Rattle.narrow_typing.proofs.Narrowing.{IsTyped, plain}
use Rattle.narrow_typing.proofs.SetForms.{infinite_typed}
use Rattle.narrow_typing.proofs.Operators.{prefix_typed, call_typed, operator_typed}
use Rattle.narrow_typing.proofs.Binders.{AreTyped, extension_typed, partition_typed, quantified_typed, collected_typed, identity_is, projection_is}
use Rattle.narrow_typing.proofs.NarrowHeads.{narrowed-truth, narrowed-literal, narrowed-reference, narrowed-variable, narrowed-infinite, narrowed-identity, narrowed-projection, narrowed-unary, narrowed-binary, narrowed-many, narrowed-over, narrowed-all}

module _ (G : List EbType → Term → Sort → Type 0) (J : Judges G) (L : Term → Type 0) (leaves : Gives G L)
    (goes_by : (types : List EbType) (t : Term) (s : Sort) → HasSort types t s → (narrowed t).ty ≡ type_in s) where
  by : {types : List EbType} {t : Term} {s : Sort} → HasSort types t s → (n : Narrowed) → narrowed t ≡ n → (n.ty ≡ type_in s → IsTyped G J types n s) → IsTyped G J types (narrowed t) s
  by {types = types} {t = t} {s = s} d n e f = subst (λ m. IsTyped G J types m s) (sym e) (f (sym (ap (λ m. m.ty) e) ∙ goes_by types t s d))

  -- a binder over the members of a set
  ranges : (bound : List EbType) (t : EbType) (e : Term) → IsTyped G J bound (narrowed e) (expression (power t)) → (o : Binder) (r : Sort) (b : Term) → BindsAt o r → G (bound ++ t ∷ []) b r
      → G bound (term.over o ((narrowed e).term (length bound)) b) r
  ranges bound t e h o r b i k = J.over bound ((narrowed e).term (length bound)) b o r t i h.term k

  mutual
    pub narrowed_typed : {types : List EbType} {t : Term} {s : Sort} → HasSort types t s → L t → IsTyped G J types (narrowed t) s
    narrowed_typed (typing.truth {bound = types} b) l =
        by (typing.truth b) (narrow.predicate (λ d. term.truth b)) (narrowed-truth b) (plain G J types _ (λ d. term.truth b) predicate (J.truth types b))
    narrowed_typed (typing.literal {bound = types} v t) l =
        by (typing.literal v t) (narrow.expression (Some t) (λ d. term.literal v t)) (narrowed-literal v t) (plain G J types (Some t) (λ d. term.literal v t) (expression t) (leaves.literal types v t l))
    narrowed_typed (typing.reference {bound = types} place t) l =
        by (typing.reference place t) (narrow.expression (Some t) (λ d. term.reference place t)) (narrowed-reference place t) (plain G J types (Some t) (λ d. term.reference place t) (expression t) (leaves.reference types place t l))
    narrowed_typed (typing.variable {bound = types} k path whole t p q) l =
        by (typing.variable k path whole t p q) (narrow.expression (Some t) (λ d. term.variable k path t)) (narrowed-variable k path t)
        (plain G J types (Some t) (λ d. term.variable k path t) (expression t) (J.variable types k path whole t p q))
    narrowed_typed (typing.infinite {bound = types} i) l =
        by (typing.infinite i) (narrow.infinite_set i) (narrowed-infinite i) (λ e. infinite_typed G J types i)
    narrowed_typed (typing.identity {bound = types} t) l =
        by (typing.identity t) (narrow.expression (Some (relation t t)) (narrow.identity t)) (narrowed-identity t)
        (plain G J types (Some (relation t t)) (narrow.identity t) (expression (relation t t)) (identity_is G J types t))
    narrowed_typed (typing.projection {bound = types} x a b) l =
        by (typing.projection x a b) (narrow.expression (type_step (head.Projection x a b)) (narrow.projection x a b)) (narrowed-projection x a b)
        (plain G J types (type_step (head.Projection x a b)) (narrow.projection x a b) (expression (relation (product a b) (of_two x a b))) (projection_is G J types x a b))
    narrowed_typed (typing.prefix {bound = types} {a = a} o v d) l =
        let ty : Option EbType = type_by_unary (unary.Prefix o) (narrowed a).ty in
        by (typing.prefix o v d) (narrow.by_prefix o ty (narrowed a)) (narrowed-unary (unary.Prefix o) a) (prefix_typed G J types o v ty (narrowed a) (narrowed_typed d (leaves.unary (unary.Prefix o) a l)))
    narrowed_typed (typing.call {bound = types} {a = a} o v d) l =
        let ty : Option EbType = type_by_unary (unary.Call o) (narrowed a).ty in
        by (typing.call o v d) (narrow.by_call o ty (narrowed a)) (narrowed-unary (unary.Call o) a) (call_typed G J types o v ty (narrowed a) (narrowed_typed d (leaves.unary (unary.Call o) a l)))
    narrowed_typed (typing.inverse {bound = types} {a = a} v d) l =
        let ty : Option EbType = type_by_unary unary.Inverse (narrowed a).ty in
        by (typing.inverse v d) (narrow.by_unary unary.Inverse ty (narrowed a)) (narrowed-unary unary.Inverse a)
        (plain G J types ty (λ k. inverse ((narrowed a).term k)) (sort v inverse_row.whole) (J.inverse types ((narrowed a).term (length types)) v (narrowed_typed d (leaves.unary unary.Inverse a l)).term))
    narrowed_typed (typing.defined {bound = types} {a = a} t d) l =
        let ty : Option EbType = type_by_unary unary.Defined (narrowed a).ty in
        by (typing.defined t d) (narrow.by_unary unary.Defined ty (narrowed a)) (narrowed-unary unary.Defined a)
        (plain G J types _ (λ k. term.unary unary.Defined ((narrowed a).term k)) predicate (J.defined types ((narrowed a).term (length types)) t (narrowed_typed d (leaves.unary unary.Defined a l)).term))
    narrowed_typed (typing.functional {bound = types} {a = a} s t d) l =
        let ty : Option EbType = type_by_unary unary.Functional (narrowed a).ty in
        by (typing.functional s t d) (narrow.by_unary unary.Functional ty (narrowed a)) (narrowed-unary unary.Functional a)
        (plain G J types _ (λ k. functional ((narrowed a).term k)) predicate (J.functional types ((narrowed a).term (length types)) s t (narrowed_typed d (leaves.unary unary.Functional a l)).term))
    narrowed_typed (typing.part {bound = types} {a = a} x s t d) l =
        let ty : Option EbType = type_by_unary (unary.Part x) (narrowed a).ty in
        by (typing.part x s t d) (narrow.by_unary (unary.Part x) ty (narrowed a)) (narrowed-unary (unary.Part x) a)
        (plain G J types ty (λ k. part x ((narrowed a).term k)) (expression (of_two x s t)) (J.part types ((narrowed a).term (length types)) x s t (narrowed_typed d (leaves.unary (unary.Part x) a l)).term))
    narrowed_typed (typing.operator {bound = types} {a = a} {b = b} o v d e) l =
        let ty : Option EbType = type_by_binary (binary.Operator o) (narrowed a).ty (narrowed b).ty in
        by (typing.operator o v d e) (narrow.by_operator o ty (narrowed a) (narrowed b)) (narrowed-binary (binary.Operator o) a b)
        (operator_typed G J types o v ty (narrowed a) (narrowed b) (narrowed_typed d (leaves.left (binary.Operator o) a b l)) (narrowed_typed e (leaves.right (binary.Operator o) a b l)))
    narrowed_typed (typing.both {bound = types} {p = p} {q = q} d e) l =
        let ty : Option EbType = type_by_binary binary.Both (narrowed p).ty (narrowed q).ty in
        by (typing.both d e) (narrow.by_binary binary.Both ty (narrowed p) (narrowed q)) (narrowed-binary binary.Both p q)
        (plain G J types _ (λ k. both ((narrowed p).term k) ((narrowed q).term k)) predicate
        (J.both types ((narrowed p).term (length types)) ((narrowed q).term (length types)) (narrowed_typed d (leaves.left binary.Both p q l)).term (narrowed_typed e (leaves.right binary.Both p q l)).term))
    narrowed_typed (typing.«if» {bound = types} {p = p} {s = s} t d e) l =
        let ty : Option EbType = type_by_binary binary.If (narrowed p).ty (narrowed s).ty in
        by (typing.«if» t d e) (narrow.by_binary binary.If ty (narrowed p) (narrowed s)) (narrowed-binary binary.If p s)
        (plain G J types ty (λ k. term.binary binary.If ((narrowed p).term k) ((narrowed s).term k)) (expression (power t))
        (J.where_true types ((narrowed p).term (length types)) ((narrowed s).term (length types)) t (narrowed_typed d (leaves.left binary.If p s l)).term (narrowed_typed e (leaves.right binary.If p s l)).term))
    narrowed_typed (typing.extension {bound = types} {e = e} {es = es} t d) l =
        let ty : Option EbType = type_by_many many.Extension (map (λ e. e.ty) (map narrowed (e ∷ es))) in
        by (typing.extension t d) (narrow.by_many many.Extension ty (map narrowed (e ∷ es))) (narrowed-many many.Extension (e ∷ es))
        (extension_typed G J types ty (narrowed e) (map narrowed es) t (each_typed d (leaves.many many.Extension (e ∷ es) l)))
    narrowed_typed (typing.partition {bound = types} {e = e} {es = es} t d) l =
        let ty : Option EbType = type_by_many many.Partition (map (λ e. e.ty) (map narrowed (e ∷ es))) in
        by (typing.partition t d) (narrow.by_many many.Partition ty (map narrowed (e ∷ es))) (narrowed-many many.Partition (e ∷ es))
        (λ k. partition_typed G J types ty (narrowed e) (map narrowed es) t (each_typed d (leaves.many many.Partition (e ∷ es) l)))
    narrowed_typed (typing.quantified_over {bound = types} {e = e} {p = p} o t i d g) l =
        let ty : Option EbType = type_by_binder o (narrowed p).ty in
        let bind : Binder → ℕ → Term → Term = λ k d q. term.over k ((narrowed e).term d) q in
        by (typing.quantified_over o t i d g) (narrow.by_range o ty bind (narrowed p)) (narrowed-over o e p)
        (λ k. quantified_typed G J types t bind (ranges types t e (narrowed_typed d (leaves.range o e p l))) (narrowed p) o ty i (narrowed_typed g (leaves.body o e p l)))
    narrowed_typed (typing.quantified {bound = types} {p = p} o t i g) l =
        let ty : Option EbType = type_by_binder o (narrowed p).ty in
        let bind : Binder → ℕ → Term → Term = λ k d q. term.all k t q in
        by (typing.quantified o t i g) (narrow.by_range o ty bind (narrowed p)) (narrowed-all o t p)
        (λ k. quantified_typed G J types t bind (λ o r b j h. J.all types b o r t j h) (narrowed p) o ty i (narrowed_typed g (leaves.all o t p l)))
    narrowed_typed (typing.collected_over {bound = types} {e = e} {s = s} t u d g) l =
        let ty : Option EbType = type_by_binder binder.Collect (narrowed s).ty in
        let bind : Binder → ℕ → Term → Term = λ k d q. term.over k ((narrowed e).term d) q in
        by (typing.collected_over t u d g) (narrow.by_range binder.Collect ty bind (narrowed s)) (narrowed-over binder.Collect e s)
        (collected_typed G J types t bind (ranges types t e (narrowed_typed d (leaves.range binder.Collect e s l))) (narrowed s) ty u (narrowed_typed g (leaves.body binder.Collect e s l)))
    narrowed_typed (typing.collected {bound = types} {s = s} t u g) l =
        let ty : Option EbType = type_by_binder binder.Collect (narrowed s).ty in
        let bind : Binder → ℕ → Term → Term = λ k d q. term.all k t q in
        by (typing.collected t u g) (narrow.by_range binder.Collect ty bind (narrowed s)) (narrowed-all binder.Collect t s)
        (collected_typed G J types t bind (λ o r b j h. J.all types b o r t j h) (narrowed s) ty u (narrowed_typed g (leaves.all binder.Collect t s l)))

    each_typed : {types : List EbType} {es : List Term} {s : Sort} → HaveSort types es s → AllByRecursion L es → AreTyped G J types s (map narrowed es)
    each_typed typing.none l = tt
    each_typed (typing.more d ds) l = (narrowed_typed d l.0, each_typed ds l.1)
