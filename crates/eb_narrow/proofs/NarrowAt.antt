-- Narrow form by the head of a term, and the types that it goes by.
use Rattle.std.proofs.Common.{◌≡◌, ◌∙◌, refl, sym, ap, ap₂, ℕ, ◌+◌, Bool, true, false, ◌||◌, if◌then◌else◌, List, [], ◌∷◌, map, Option, rules}
use Rattle.std.specs.List.{AllByRecursion}
use Rattle.eb_syntax.specs.declared.ast.Prefix.TheVariants as prefix
use Rattle.eb_syntax.specs.declared.ast.Call.{Call}
use Rattle.eb_syntax.specs.declared.ast.Call.TheVariants as call
use Rattle.eb_syntax.specs.declared.ast.Operator.{Operator}
use Rattle.eb_syntax.specs.declared.ast.Operator.TheVariants as op
use Rattle.eb_value.specs.declared.types.EbType.{EbType}
use Rattle.eb_term.specs.declared.operators.Unary.{Unary}
use Rattle.eb_term.specs.declared.operators.Unary.TheVariants as unary
use Rattle.eb_term.specs.declared.operators.Binary.{Binary}
use Rattle.eb_term.specs.declared.operators.Binary.TheVariants as binary
use Rattle.eb_term.specs.declared.operators.Binder.{Binder}
use Rattle.eb_term.specs.declared.operators.Binder.TheVariants as binder
use Rattle.eb_term.specs.declared.operators.Many.{Many}
use Rattle.eb_term.specs.declared.operators.Many.TheVariants as many
use Rattle.eb_term.specs.declared.term.Term.{Term, fold_out-Term}
use Rattle.eb_term.specs.declared.term.Head.{the_lemmas}
use Rattle.eb_term.specs.declared.term.Head.TheVariants as head
use Rattle.eb_term.specs.Terms as term
use Rattle.narrow_terms.specs.Building.{partition}
use Rattle.term_types.specs.Types.{type_of, type_by_unary, type_by_binary, type_by_many, type_by_binder}
use Rattle.eb_narrow.specs.Narrow.{Narrowed, narrowed, by_unary, by_call, by_operator, by_binary, by_relation, by_many, by_range, product_form, set_type}
use Rattle.eb_narrow.specs.steps.Narrowing as step
use Rattle.eb_narrow.proofs.TermInduction.{ind_term}

-- ---- by the head

pub unary_is : (t a : Term) (o : Unary) → t.head ≡ head.Unary o a → narrowed t ≡ by_unary o (type_by_unary o (narrowed a).ty) (narrowed a)
unary_is t a o p = search (rules, fold_out-Term, the_lemmas, p)

pub binary_is : (t a b : Term) (o : Binary) → t.head ≡ head.Binary o a b
    → narrowed t ≡ by_binary o (type_by_binary o (narrowed a).ty (narrowed b).ty) (narrowed a) (narrowed b)
binary_is t a b o p = search (rules, fold_out-Term, the_lemmas, p)

pub many_is : (t : Term) (o : Many) (ts : List Term) → t.head ≡ head.Many o ts
    → narrowed t ≡ by_many o (type_by_many o (map (λ e. e.ty) (map narrowed ts))) (map narrowed ts)
many_is t o ts p = search (rules, fold_out-Term, the_lemmas, p)

pub over_is : (t s body : Term) (o : Binder) → t.head ≡ head.Over o s body
    → narrowed t ≡ by_range o (type_by_binder o (narrowed body).ty) (λ k d p. term.over k ((narrowed s).term d) p) (narrowed body)
over_is t s body o p = search (rules, fold_out-Term, the_lemmas, p)

pub all_is : (t body : Term) (o : Binder) (ty : EbType) → t.head ≡ head.All o ty body
    → narrowed t ≡ by_range o (type_by_binder o (narrowed body).ty) (λ k d p. term.all k ty p) (narrowed body)
all_is t body o ty p = search (rules, fold_out-Term, the_lemmas, p)

-- ---- many parts

pub each_term : (ts : List Term) (d : ℕ) → map (λ e. e.term d) (map narrowed ts) ≡ map (λ t. (narrowed t).term d) ts
each_term [] d = refl
each_term (t ∷ ts) d = ap (λ xs. (narrowed t).term d ∷ xs) (each_term ts d)

pub extension_is : (t : Term) (o : Many) (ts : List Term) (d : ℕ) → t.head ≡ head.Many o ts → o ≡ many.Extension
    → term.many many.Extension (map (λ e. (narrowed e).term d) ts) ≡ (narrowed t).term d
extension_is t o ts d p q = ap (term.many many.Extension) (sym (each_term ts d))
    ∙ sym (ap (λ n. n.term d) (many_is t many.Extension ts (p ∙ ap (λ k. head.Many k ts) q)))

pub partition_is : (t : Term) (o : Many) (ts : List Term) (d : ℕ) → t.head ≡ head.Many o ts → o ≡ many.Partition
    → partition (set_type (map narrowed ts)) (map (λ e. (narrowed e).term d) ts) ≡ (narrowed t).term d
partition_is t o ts d p q = ap (partition (set_type (map narrowed ts))) (sym (each_term ts d))
    ∙ sym (ap (λ n. n.term d) (many_is t many.Partition ts (p ∙ ap (λ k. head.Many k ts) q)))

-- ---- binders

pub range_over : (o : Binder) (ty : Option EbType) (s : ℕ → Term) (p : Narrowed) (d : ℕ)
    → step.turned o (term.over (step.narrow_binder o) (s d) (step.turned o (p.term (d + 1)))) ≡ (by_range o ty (λ k e q. term.over k (s e) q) p).term d
range_over binder.ForAll ty s p d = refl
range_over binder.Exists ty s p d = refl
range_over binder.Collect ty s p d = refl

pub range_all : (o : Binder) (ty : Option EbType) (t : EbType) (p : Narrowed) (d : ℕ)
    → step.turned o (term.all (step.narrow_binder o) t (step.turned o (p.term (d + 1)))) ≡ (by_range o ty (λ k e q. term.all k t q) p).term d
range_all binder.ForAll ty t p d = refl
range_all binder.Exists ty t p d = refl
range_all binder.Collect ty t p d = refl

pub bound_over : (t s body : Term) (o : Binder) (d : ℕ) → t.head ≡ head.Over o s body
    → step.turned o (term.over (step.narrow_binder o) ((narrowed s).term d) (step.turned o ((narrowed body).term (d + 1)))) ≡ (narrowed t).term d
bound_over t s body o d p = range_over o (type_by_binder o (narrowed body).ty) (narrowed s).term (narrowed body) d ∙ sym (ap (λ n. n.term d) (over_is t s body o p))

pub bound_all : (t body : Term) (o : Binder) (ty : EbType) (d : ℕ) → t.head ≡ head.All o ty body
    → step.turned o (term.all (step.narrow_binder o) ty (step.turned o ((narrowed body).term (d + 1)))) ≡ (narrowed t).term d
bound_all t body o ty d p = range_all o (type_by_binder o (narrowed body).ty) ty (narrowed body) d ∙ sym (ap (λ n. n.term d) (all_is t body o ty p))

-- ---- the types are those of the table

call_type : (c : Call) (A : Narrowed) → (by_call c (type_by_unary (unary.Call c) A.ty) A).ty ≡ type_by_unary (unary.Call c) A.ty
call_type call.PowerSet A = refl
call_type call.NonemptyPowerSet A = refl
call_type call.Cardinality A = refl
call_type call.Minimum A = refl
call_type call.Maximum A = refl
call_type call.Domain A = refl
call_type call.Range A = refl
call_type call.GeneralizedUnion A = refl
call_type call.GeneralizedIntersection A = refl
call_type call.BoolOf A = refl
call_type call.Finite A = refl

unary_type : (o : Unary) (A : Narrowed) → (by_unary o (type_by_unary o A.ty) A).ty ≡ type_by_unary o A.ty
unary_type (unary.Prefix prefix.Not) A = refl
unary_type (unary.Prefix prefix.Minus) A = refl
unary_type (unary.Call c) A = call_type c A
unary_type unary.Inverse A = refl
unary_type unary.Defined A = refl
unary_type unary.Functional A = refl
unary_type (unary.Part s) A = refl

product_type : (b : Bool) (ty : Option EbType) (A B : Narrowed) → (if b then product_form ty A B else by_relation op.Product ty A B).ty ≡ ty
product_type true ty A B = refl
product_type false ty A B = refl

operator_type : (o : Operator) (A B : Narrowed)
    → (by_operator o (type_by_binary (binary.Operator o) A.ty B.ty) A B).ty ≡ type_by_binary (binary.Operator o) A.ty B.ty
operator_type op.Product A B = product_type (A.is_form || B.is_form) (type_by_binary (binary.Operator op.Product) A.ty B.ty) A B
operator_type _ A B = refl

binary_type : (o : Binary) (A B : Narrowed) → (by_binary o (type_by_binary o A.ty B.ty) A B).ty ≡ type_by_binary o A.ty B.ty
binary_type (binary.Operator o) A B = operator_type o A B
binary_type binary.Both A B = refl
binary_type binary.If A B = refl

many_type : (o : Many) (es : List Narrowed) → (by_many o (type_by_many o (map (λ e. e.ty) es)) es).ty ≡ type_by_many o (map (λ e. e.ty) es)
many_type many.Extension es = refl
many_type many.Partition es = refl

range_type : (o : Binder) (bind : Binder → ℕ → Term → Term) (p : Narrowed) → (by_range o (type_by_binder o p.ty) bind p).ty ≡ type_by_binder o p.ty
range_type binder.ForAll bind p = refl
range_type binder.Exists bind p = refl
range_type binder.Collect bind p = refl

type-unary : (o : Unary) (a : Term) → type_of (term.unary o a) ≡ type_by_unary o (type_of a)
type-unary o a = search (rules, the_lemmas)

type-binary : (o : Binary) (a b : Term) → type_of (term.binary o a b) ≡ type_by_binary o (type_of a) (type_of b)
type-binary o a b = search (rules, the_lemmas)

type-many : (o : Many) (ts : List Term) → type_of (term.many o ts) ≡ type_by_many o (map type_of ts)
type-many o ts = search (rules, the_lemmas)

type-over : (o : Binder) (s body : Term) → type_of (term.over o s body) ≡ type_by_binder o (type_of body)
type-over o s body = search (rules, the_lemmas)

type-all : (o : Binder) (ty : EbType) (body : Term) → type_of (term.all o ty body) ≡ type_by_binder o (type_of body)
type-all o ty body = search (rules, the_lemmas)

each_type : (ts : List Term) → AllByRecursion (λ t. (narrowed t).ty ≡ type_of t) ts → map (λ e. e.ty) (map narrowed ts) ≡ map type_of ts
each_type [] h = refl
each_type (t ∷ ts) h = ap₂ (λ x xs. x ∷ xs) h.0 (each_type ts h.1)

pub same_type : (t : Term) → (narrowed t).ty ≡ type_of t
same_type = ind_term (λ t. (narrowed t).ty ≡ type_of t) (record {
  truth = λ b. search (rules, the_lemmas);
  literal = λ v ty. search (rules, the_lemmas);
  reference = λ place ty. search (rules, the_lemmas);
  variable = λ k path ty. search (rules, the_lemmas);
  infinite = λ i. search (rules, the_lemmas);
  identity = λ ty. search (rules, the_lemmas);
  projection = λ s a b. search (rules, the_lemmas);
  unary = λ o a p. ap (λ n. n.ty) (unary_is (term.unary o a) a o (search (rules, the_lemmas))) ∙ (unary_type o (narrowed a) ∙ (ap (type_by_unary o) p ∙ sym (type-unary o a)));
  binary = λ o a b p q. ap (λ n. n.ty) (binary_is (term.binary o a b) a b o (search (rules, the_lemmas))) ∙ (binary_type o (narrowed a) (narrowed b) ∙ (ap₂ (type_by_binary o) p q ∙ sym (type-binary o a b)));
  many = λ o ts p. ap (λ n. n.ty) (many_is (term.many o ts) o ts (search (rules, the_lemmas))) ∙ (many_type o (map narrowed ts) ∙ (ap (type_by_many o) (each_type ts p) ∙ sym (type-many o ts)));
  over = λ o s body p q. ap (λ n. n.ty) (over_is (term.over o s body) s body o (search (rules, the_lemmas))) ∙ (range_type o (λ k d r. term.over k ((narrowed s).term d) r) (narrowed body) ∙ (ap (type_by_binder o) q ∙ sym (type-over o s body)));
  all = λ o ty body p. ap (λ n. n.ty) (all_is (term.all o ty body) body o ty (search (rules, the_lemmas))) ∙ (range_type o (λ k d r. term.all k ty r) (narrowed body) ∙ (ap (type_by_binder o) p ∙ sym (type-all o ty body)));
})

pub unary_ty : (t a : Term) (o : Unary) → t.head ≡ head.Unary o a → type_of t ≡ type_by_unary o (narrowed a).ty
unary_ty t a o p = sym (same_type t) ∙ (ap (λ n. n.ty) (unary_is t a o p) ∙ unary_type o (narrowed a))

pub binary_ty : (t a b : Term) (o : Binary) → t.head ≡ head.Binary o a b → type_of t ≡ type_by_binary o (narrowed a).ty (narrowed b).ty
binary_ty t a b o p = sym (same_type t) ∙ (ap (λ n. n.ty) (binary_is t a b o p) ∙ binary_type o (narrowed a) (narrowed b))
