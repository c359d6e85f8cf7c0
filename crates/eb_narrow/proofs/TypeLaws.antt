-- Narrow form goes by the type of the term.
use Rattle.std.proofs.Common.{◌≡◌, ◌∙◌, ℕ, ◌||◌, if◌then◌else◌, Bool, true, false, List, [], ◌∷◌, map, Option, Some, None, option_map, option_and_then, refl, sym, ap, ap₂, rules}
use Rattle.std.specs.List.{AllByRecursion}
use Rattle.eb_syntax.specs.declared.ast.Operator.{Operator}
use Rattle.eb_syntax.specs.declared.ast.Operator.TheVariants as op
use Rattle.eb_syntax.specs.declared.ast.Prefix.{Prefix}
use Rattle.eb_syntax.specs.declared.ast.Prefix.TheVariants as prefix
use Rattle.eb_syntax.specs.declared.ast.Call.{Call}
use Rattle.eb_syntax.specs.declared.ast.Call.TheVariants as call
use Rattle.type_table.specs.Rows.{Sort, Choice, sort, prefix_row, call_row, inverse_row, operator_row}
use Rattle.eb_value.specs.declared.types.EbType.{EbType}
use Rattle.eb_value.specs.declared.types.EbType as type_module
use Rattle.eb_value.specs.Types.{product, power}
use Rattle.eb_term.specs.declared.operators.Unary.{Unary}
use Rattle.eb_term.specs.declared.operators.Unary.TheVariants as unary
use Rattle.eb_term.specs.declared.operators.Binary.{Binary}
use Rattle.eb_term.specs.declared.operators.Binary.TheVariants as binary
use Rattle.eb_term.specs.declared.operators.Many.{Many}
use Rattle.eb_term.specs.declared.operators.Many.TheVariants as many
use Rattle.eb_term.specs.declared.operators.Binder.{Binder}
use Rattle.eb_term.specs.declared.operators.Binder.TheVariants as binder
use Rattle.eb_term.specs.declared.operators.Side.{Side}
use Rattle.eb_term.specs.declared.operators.Side.TheVariants as side
use Rattle.eb_term.specs.declared.term.Term.{Term}
use Rattle.eb_term.specs.declared.term.Head.{the_lemmas}
use Rattle.eb_term.specs.Terms as term
use Rattle.eb_term.specs.Typed.{HasSort, HaveSort, of_two, part_of_type}
use Rattle.eb_term.specs.Typed as typing
use Rattle.eb_term.specs.declared.operators.Infinite.{Infinite}
use Rattle.eb_narrow.specs.Narrow as narrow
use Rattle.eb_narrow.specs.Narrow.{Narrowed, narrowed}
use Rattle.eb_narrow.proofs.TermInduction.{ind_term}
use Rattle.eb_narrow.proofs.Kept.{narrowed-unary, narrowed-binary, narrowed-many, narrowed-over, narrowed-all}
use Rattle.term_types.specs.Types.{type_of, type_in, type_by_unary, type_by_binary, type_by_many, type_by_binder, first_of, second_of}
use Rattle.narrow_terms.specs.Parts.{element_of}

-- ---- terms by their heads

type-truth : (b : Bool) → type_of (term.truth b) ≡ None
type-truth b = search (rules, the_lemmas)

type-unary : (o : Unary) (a : Term) → type_of (term.unary o a) ≡ type_by_unary o (type_of a)
type-unary o a = search (rules, the_lemmas)

type-binary : (o : Binary) (a b : Term) → type_of (term.binary o a b) ≡ type_by_binary o (type_of a) (type_of b)
type-binary o a b = search (rules, the_lemmas)

type-many : (o : Many) (es : List Term) → type_of (term.many o es) ≡ type_by_many o (map type_of es)
type-many o es = search (rules, the_lemmas)

type-over : (o : Binder) (range body : Term) → type_of (term.over o range body) ≡ type_by_binder o (type_of body)
type-over o range body = search (rules, the_lemmas)

type-all : (o : Binder) (t : EbType) (body : Term) → type_of (term.all o t body) ≡ type_by_binder o (type_of body)
type-all o t body = search (rules, the_lemmas)

-- ---- the type that narrow form goes by

unary_ty : (o : Unary) (a : Narrowed) → (narrow.by_unary o (type_by_unary o a.ty) a).ty ≡ type_by_unary o a.ty
unary_ty (unary.Prefix prefix.Not) a = refl
unary_ty (unary.Prefix prefix.Minus) a = refl
unary_ty (unary.Call call.PowerSet) a = refl
unary_ty (unary.Call call.NonemptyPowerSet) a = refl
unary_ty (unary.Call call.Cardinality) a = refl
unary_ty (unary.Call call.Minimum) a = refl
unary_ty (unary.Call call.Maximum) a = refl
unary_ty (unary.Call call.Domain) a = refl
unary_ty (unary.Call call.Range) a = refl
unary_ty (unary.Call call.GeneralizedUnion) a = refl
unary_ty (unary.Call call.GeneralizedIntersection) a = refl
unary_ty (unary.Call call.BoolOf) a = refl
unary_ty (unary.Call call.Finite) a = refl
unary_ty unary.Inverse a = refl
unary_ty unary.Defined a = refl
unary_ty unary.Functional a = refl
unary_ty (unary.Part x) a = refl

product_ty : (ty : Option EbType) (a b : Narrowed) (form : Bool) → (if form then narrow.product_form ty a b else narrow.by_relation op.Product ty a b).ty ≡ ty
product_ty ty a b true = refl
product_ty ty a b false = refl

operator_ty : (o : Operator) (a b : Narrowed) → (narrow.by_operator o (type_by_binary (binary.Operator o) a.ty b.ty) a b).ty ≡ type_by_binary (binary.Operator o) a.ty b.ty
operator_ty op.Implies a b = refl
operator_ty op.Equivalent a b = refl
operator_ty op.Or a b = refl
operator_ty op.And a b = refl
operator_ty op.Equal a b = refl
operator_ty op.Unequal a b = refl
operator_ty op.MemberOf a b = refl
operator_ty op.NotMemberOf a b = refl
operator_ty op.SubsetOf a b = refl
operator_ty op.NotSubsetOf a b = refl
operator_ty op.ProperSubsetOf a b = refl
operator_ty op.NotProperSubsetOf a b = refl
operator_ty op.Less a b = refl
operator_ty op.AtMost a b = refl
operator_ty op.Greater a b = refl
operator_ty op.AtLeast a b = refl
operator_ty op.MapsTo a b = refl
operator_ty op.UpTo a b = refl
operator_ty op.Plus a b = refl
operator_ty op.Minus a b = refl
operator_ty op.Times a b = refl
operator_ty op.Divide a b = refl
operator_ty op.Modulo a b = refl
operator_ty op.Power a b = refl
operator_ty op.Relation a b = refl
operator_ty op.TotalRelation a b = refl
operator_ty op.SurjectiveRelation a b = refl
operator_ty op.TotalSurjectiveRelation a b = refl
operator_ty op.PartialFunction a b = refl
operator_ty op.TotalFunction a b = refl
operator_ty op.PartialInjection a b = refl
operator_ty op.TotalInjection a b = refl
operator_ty op.PartialSurjection a b = refl
operator_ty op.TotalSurjection a b = refl
operator_ty op.Bijection a b = refl
operator_ty op.Union a b = refl
operator_ty op.Intersection a b = refl
operator_ty op.Difference a b = refl
operator_ty op.Product a b = product_ty (type_by_binary (binary.Operator op.Product) a.ty b.ty) a b (a.is_form || b.is_form)
operator_ty op.ForwardComposition a b = refl
operator_ty op.BackwardComposition a b = refl
operator_ty op.DomainRestriction a b = refl
operator_ty op.DomainSubtraction a b = refl
operator_ty op.RangeRestriction a b = refl
operator_ty op.RangeSubtraction a b = refl
operator_ty op.Override a b = refl
operator_ty op.DirectProduct a b = refl
operator_ty op.ParallelProduct a b = refl
operator_ty op.Apply a b = refl
operator_ty op.Image a b = refl

binary_ty : (o : Binary) (a b : Narrowed) → (narrow.by_binary o (type_by_binary o a.ty b.ty) a b).ty ≡ type_by_binary o a.ty b.ty
binary_ty (binary.Operator o) a b = operator_ty o a b
binary_ty binary.Both a b = refl
binary_ty binary.If a b = refl

many_ty : (o : Many) (es : List Narrowed) → (narrow.by_many o (type_by_many o (map (λ e. e.ty) es)) es).ty ≡ type_by_many o (map (λ e. e.ty) es)
many_ty many.Extension es = refl
many_ty many.Partition es = refl

binder_ty : (o : Binder) (bind : Binder → ℕ → Term → Term) (p : Narrowed) → (narrow.by_range o (type_by_binder o p.ty) bind p).ty ≡ type_by_binder o p.ty
binder_ty binder.ForAll bind p = refl
binder_ty binder.Exists bind p = refl
binder_ty binder.Collect bind p = refl

abbrev IsTyped : Term → Type 0
IsTyped t = (narrowed t).ty ≡ type_of t

all_typed : (es : List Term) → AllByRecursion IsTyped es → map (λ e. e.ty) (map narrowed es) ≡ map type_of es
all_typed [] h = refl
all_typed (e ∷ es) h = ap₂ (λ t ts. t ∷ ts) h.0 (all_typed es h.1)

pub narrowed_type : (t : Term) → (narrowed t).ty ≡ type_of t
narrowed_type = ind_term IsTyped (record {
  truth = λ b. search (rules, the_lemmas);
  literal = λ v ty. search (rules, the_lemmas);
  reference = λ place ty. search (rules, the_lemmas);
  variable = λ k path ty. search (rules, the_lemmas);
  infinite = infinite_ty;
  identity = λ ty. search (rules, the_lemmas);
  projection = λ s a b. search (rules, the_lemmas);
  unary = λ o a p. ap (λ n. n.ty) (narrowed-unary o a) ∙ (unary_ty o (narrowed a) ∙ (ap (type_by_unary o) p ∙ sym (type-unary o a)));
  binary = λ o a b p q. ap (λ n. n.ty) (narrowed-binary o a b) ∙ (binary_ty o (narrowed a) (narrowed b) ∙ (ap₂ (type_by_binary o) p q ∙ sym (type-binary o a b)));
  many = λ o ts p. ap (λ n. n.ty) (narrowed-many o ts) ∙ (many_ty o (map narrowed ts) ∙ (ap (type_by_many o) (all_typed ts p) ∙ sym (type-many o ts)));
  over = λ o range body p q. ap (λ n. n.ty) (narrowed-over o range body) ∙ (binder_ty o (λ k d r. term.over k ((narrowed range).term d) r) (narrowed body) ∙ (ap (type_by_binder o) q ∙ sym (type-over o range body)));
  all = λ o ty body p. ap (λ n. n.ty) (narrowed-all o ty body) ∙ (binder_ty o (λ k d r. term.all k ty r) (narrowed body) ∙ (ap (type_by_binder o) p ∙ sym (type-all o ty body)));
})
  where
    infinite_ty : (i : Infinite) → IsTyped (term.infinite i)
    infinite_ty i = search (rules, the_lemmas)
