-- Narrow form by the kinds of operators.
use Rattle.std.proofs.Common.{◌≡◌, ◌∙◌, refl, sym, ap, ap₂, Bool, true, false, ◌&&◌, ◌||◌, if◌then◌else◌, Option}
use Rattle.eb_syntax.specs.declared.ast.Prefix.TheVariants as prefix
use Rattle.eb_syntax.specs.declared.ast.Call.TheVariants as call
use Rattle.eb_syntax.specs.declared.ast.Operator.{Operator}
use Rattle.eb_syntax.specs.declared.ast.Operator.TheVariants as op
use Rattle.eb_value.specs.declared.types.EbType.{EbType}
use Rattle.eb_term.specs.declared.operators.Unary.{Unary}
use Rattle.eb_term.specs.declared.operators.Unary.TheVariants as unary
use Rattle.eb_term.specs.declared.operators.Binary.{Binary}
use Rattle.eb_term.specs.declared.operators.Binary.TheVariants as binary
use Rattle.eb_term.specs.declared.term.Term.{Term}
use Rattle.eb_term.specs.declared.term.Head.TheVariants as head
use Rattle.eb_meaning.specs.Meaning.{is_product, is_arrow}
use Rattle.eb_narrow.specs.declared.kinds.UnaryKind.{UnaryKind}
use Rattle.eb_narrow.specs.declared.kinds.BinaryKind.{BinaryKind}
use Rattle.eb_narrow.specs.declared.kinds.BinaryKind.TheVariants as of
use Rattle.term_types.specs.Types.{type_by_unary, type_by_binary}
use Rattle.eb_narrow.specs.Narrow.{Narrowed, narrowed, by_unary, by_call, by_binary, by_relation, arrow_form, product_form}
use Rattle.eb_narrow.specs.steps.Kinds.{unary_kind, operator_kind, binary_kind, kind_with, as_unary, as_binary}
use Rattle.eb_narrow.proofs.NarrowAt as at

call_as : (c : _) (ty : Option EbType) (a : Narrowed) → by_call c ty a ≡ as_unary (unary_kind (unary.Call c)) (unary.Call c) ty a
call_as call.PowerSet ty a = refl
call_as call.NonemptyPowerSet ty a = refl
call_as call.Cardinality ty a = refl
call_as call.Minimum ty a = refl
call_as call.Maximum ty a = refl
call_as call.Domain ty a = refl
call_as call.Range ty a = refl
call_as call.GeneralizedUnion ty a = refl
call_as call.GeneralizedIntersection ty a = refl
call_as call.BoolOf ty a = refl
call_as call.Finite ty a = refl

unary_as : (o : Unary) (ty : Option EbType) (a : Narrowed) → by_unary o ty a ≡ as_unary (unary_kind o) o ty a
unary_as (unary.Prefix prefix.Not) ty a = refl
unary_as (unary.Prefix prefix.Minus) ty a = refl
unary_as (unary.Call c) ty a = call_as c ty a
unary_as unary.Inverse ty a = refl
unary_as unary.Defined ty a = refl
unary_as unary.Functional ty a = refl
unary_as (unary.Part s) ty a = refl

product_as : (p : Bool) (ty : Option EbType) (a b : Narrowed)
    → (if p then product_form ty a b else by_relation op.Product ty a b) ≡ as_binary (kind_with of.Product p) (binary.Operator op.Product) ty a b
product_as true ty a b = refl
product_as false ty a b = refl

operator_as : (o : Operator) (p : Bool) (ty : Option EbType) (a b : Narrowed)
    → (if is_arrow o then arrow_form o ty a b else (if is_product o && p then product_form ty a b else by_relation o ty a b))
    ≡ as_binary (kind_with (operator_kind o) p) (binary.Operator o) ty a b
operator_as op.Product p ty a b = product_as p ty a b
operator_as _ p ty a b = refl

binary_as : (o : Binary) (ty : Option EbType) (a b : Narrowed) → by_binary o ty a b ≡ as_binary (kind_with (binary_kind o) (a.is_form || b.is_form)) o ty a b
binary_as (binary.Operator o) ty a b = operator_as o (a.is_form || b.is_form) ty a b
binary_as binary.Both ty a b = refl
binary_as binary.If ty a b = refl

-- ---- terms of a kind

pub unary_of : (t a : Term) (o : Unary) (k : UnaryKind) → t.head ≡ head.Unary o a → unary_kind o ≡ k → narrowed t ≡ as_unary k o (type_by_unary o (narrowed a).ty) (narrowed a)
unary_of t a o k p q =
    at.unary_is t a o p ∙ (unary_as o (type_by_unary o (narrowed a).ty) (narrowed a) ∙ ap (λ k. as_unary k o (type_by_unary o (narrowed a).ty) (narrowed a)) q)

pub binary_of : (t a b : Term) (o : Binary) (k : BinaryKind) → t.head ≡ head.Binary o a b → kind_with (binary_kind o) ((narrowed a).is_form || (narrowed b).is_form) ≡ k
    → narrowed t ≡ as_binary k o (type_by_binary o (narrowed a).ty (narrowed b).ty) (narrowed a) (narrowed b)
binary_of t a b o k p q =
    let ty = type_by_binary o (narrowed a).ty (narrowed b).ty in
    at.binary_is t a b o p ∙ (binary_as o ty (narrowed a) (narrowed b) ∙ ap (λ k. as_binary k o ty (narrowed a) (narrowed b)) q)

-- the kind that was found, at equal parts
pub kind_is : (o : Binary) (a b x y : Term) (r k : BinaryKind) → x ≡ a → y ≡ b → r ≡ kind_with (binary_kind o) ((narrowed x).is_form || (narrowed y).is_form) → r ≡ k
    → kind_with (binary_kind o) ((narrowed a).is_form || (narrowed b).is_form) ≡ k
kind_is o a b x y r k p q h e = ap₂ (λ a b. kind_with (binary_kind o) ((narrowed a).is_form || (narrowed b).is_form)) (sym p) (sym q) ∙ (sym h ∙ e)
