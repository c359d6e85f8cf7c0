-- The type of a term is that by which it is typed.
use Rattle.std.proofs.Common.{◌≡◌, ◌∙◌, Bool, List, ◌∷◌, map, Some, None, option_map, option_and_then, refl, ap, ap₂, rules}
use Rattle.eb_syntax.specs.declared.ast.Operator.{Operator}
use Rattle.eb_syntax.specs.declared.ast.Operator.TheVariants as op
use Rattle.eb_syntax.specs.declared.ast.Prefix.{Prefix}
use Rattle.eb_syntax.specs.declared.ast.Prefix.TheVariants as prefix
use Rattle.eb_syntax.specs.declared.ast.Call.{Call}
use Rattle.eb_syntax.specs.declared.ast.Call.TheVariants as call
use Rattle.type_table.specs.Rows.{Sort, Choice, sort, prefix_row, call_row, inverse_row, operator_row}
use Rattle.eb_value.specs.declared.types.EbType.{EbType}
use Rattle.eb_value.specs.declared.types.EbType as type_module
use Rattle.eb_value.specs.Types.{product, power}
use Rattle.eb_term.specs.declared.operators.Unary.{Unary}
use Rattle.eb_term.specs.declared.operators.Unary.TheVariants as unary
use Rattle.eb_term.specs.declared.operators.Binary.{Binary}
use Rattle.eb_term.specs.declared.operators.Binary.TheVariants as binary
use Rattle.eb_term.specs.declared.operators.Many.{Many}
use Rattle.eb_term.specs.declared.operators.Many.TheVariants as many
use Rattle.eb_term.specs.declared.operators.Binder.{Binder}
use Rattle.eb_term.specs.declared.operators.Binder.TheVariants as binder
use Rattle.eb_term.specs.declared.operators.Side.{Side}
use Rattle.eb_term.specs.declared.operators.Side.TheVariants as side
use Rattle.eb_term.specs.declared.term.Term.{Term}
use Rattle.eb_term.specs.declared.term.Head.{the_lemmas}
use Rattle.eb_term.specs.Terms as term
use Rattle.eb_term.specs.Typed.{HasSort, HaveSort, of_two, part_of_type}
use Rattle.eb_term.specs.Typed as typing
use Rattle.term_types.specs.Types.{type_of, type_in, type_by_unary, type_by_binary, type_by_many, type_by_binder, first_of, second_of}
use Rattle.narrow_terms.specs.Parts.{element_of}

element-power : (t : EbType) → element_of (power t) ≡ Some t
element-power t = search (rules, type_module.the_lemmas)

first-product : (s t : EbType) → first_of (product s t) ≡ Some s
first-product s t = search (rules, type_module.the_lemmas)

second-product : (s t : EbType) → second_of (product s t) ≡ Some t
second-product s t = search (rules, type_module.the_lemmas)

operator_type : (o : Operator) (v : Choice) → type_by_binary (binary.Operator o) (type_in (sort v (operator_row o).left)) (type_in (sort v (operator_row o).right)) ≡ type_in (sort v (operator_row o).whole)
operator_type op.Implies v = refl
operator_type op.Equivalent v = refl
operator_type op.Or v = refl
operator_type op.And v = refl
operator_type op.Equal v = refl
operator_type op.Unequal v = refl
operator_type op.MemberOf v = refl
operator_type op.NotMemberOf v = refl
operator_type op.SubsetOf v = refl
operator_type op.NotSubsetOf v = refl
operator_type op.ProperSubsetOf v = refl
operator_type op.NotProperSubsetOf v = refl
operator_type op.Less v = refl
operator_type op.AtMost v = refl
operator_type op.Greater v = refl
operator_type op.AtLeast v = refl
operator_type op.MapsTo v = refl
operator_type op.UpTo v = refl
operator_type op.Plus v = refl
operator_type op.Minus v = refl
operator_type op.Times v = refl
operator_type op.Divide v = refl
operator_type op.Modulo v = refl
operator_type op.Power v = refl
operator_type op.Relation v = simp element-power
operator_type op.TotalRelation v = simp element-power
operator_type op.SurjectiveRelation v = simp element-power
operator_type op.TotalSurjectiveRelation v = simp element-power
operator_type op.PartialFunction v = simp element-power
operator_type op.TotalFunction v = simp element-power
operator_type op.PartialInjection v = simp element-power
operator_type op.TotalInjection v = simp element-power
operator_type op.PartialSurjection v = simp element-power
operator_type op.TotalSurjection v = simp element-power
operator_type op.Bijection v = simp element-power
operator_type op.Union v = simp element-power
operator_type op.Intersection v = simp element-power
operator_type op.Difference v = simp element-power
operator_type op.Product v = simp element-power
operator_type op.ForwardComposition v = simp (element-power, first-product, second-product)
operator_type op.BackwardComposition v = simp (element-power, first-product, second-product)
operator_type op.DomainRestriction v = simp (element-power, second-product)
operator_type op.DomainSubtraction v = simp (element-power, second-product)
operator_type op.RangeRestriction v = simp (element-power, first-product, second-product)
operator_type op.RangeSubtraction v = simp (element-power, first-product, second-product)
operator_type op.Override v = simp (element-power, first-product, second-product)
operator_type op.DirectProduct v = simp (element-power, first-product, second-product)
operator_type op.ParallelProduct v = simp (element-power, first-product, second-product)
operator_type op.Apply v = simp (element-power, second-product)
operator_type op.Image v = simp (element-power, second-product)

call_type : (o : Call) (v : Choice) → type_by_unary (unary.Call o) (type_in (sort v (call_row o).part)) ≡ type_in (sort v (call_row o).whole)
call_type call.PowerSet v = simp element-power
call_type call.NonemptyPowerSet v = simp element-power
call_type call.Cardinality v = refl
call_type call.Minimum v = refl
call_type call.Maximum v = refl
call_type call.Domain v = simp (element-power, first-product)
call_type call.Range v = simp (element-power, second-product)
call_type call.GeneralizedUnion v = simp element-power
call_type call.GeneralizedIntersection v = simp element-power
call_type call.BoolOf v = refl
call_type call.Finite v = refl

inverse_type : (v : Choice) → type_by_unary unary.Inverse (type_in (sort v inverse_row.part)) ≡ type_in (sort v inverse_row.whole)
inverse_type v = simp (element-power, first-product, second-product)

prefix_type : (o : Prefix) (v : Choice) → type_by_unary (unary.Prefix o) (type_in (sort v (prefix_row o).part)) ≡ type_in (sort v (prefix_row o).whole)
prefix_type prefix.Not v = refl
prefix_type prefix.Minus v = refl

part_type : (x : Side) (s t : EbType) → part_of_type x (product s t) ≡ Some (of_two x s t)
part_type side.First s t = first-product s t
part_type side.Second s t = second-product s t

-- ---- terms by their heads

type-truth : (b : Bool) → type_of (term.truth b) ≡ None
type-truth b = search (rules, the_lemmas)

type-unary : (o : Unary) (a : Term) → type_of (term.unary o a) ≡ type_by_unary o (type_of a)
type-unary o a = search (rules, the_lemmas)

type-binary : (o : Binary) (a b : Term) → type_of (term.binary o a b) ≡ type_by_binary o (type_of a) (type_of b)
type-binary o a b = search (rules, the_lemmas)

type-many : (o : Many) (es : List Term) → type_of (term.many o es) ≡ type_by_many o (map type_of es)
type-many o es = search (rules, the_lemmas)

type-over : (o : Binder) (range body : Term) → type_of (term.over o range body) ≡ type_by_binder o (type_of body)
type-over o range body = search (rules, the_lemmas)

type-all : (o : Binder) (t : EbType) (body : Term) → type_of (term.all o t body) ≡ type_by_binder o (type_of body)
type-all o t body = search (rules, the_lemmas)

-- by induction on what types the term
pub type_is : {types : List EbType} {t : Term} {s : Sort} → HasSort types t s → type_of t ≡ type_in s
type_is (typing.truth b) = type-truth b
type_is (typing.literal v t) = search (rules, the_lemmas)
type_is (typing.reference place t) = search (rules, the_lemmas)
type_is (typing.variable k path whole t p q) = search (rules, the_lemmas)
type_is (typing.infinite i) = search (rules, the_lemmas)
type_is (typing.identity t) = search (rules, the_lemmas)
type_is (typing.projection x a b) = search (rules, the_lemmas)
type_is (typing.prefix {a = a} o v d) = type-unary (unary.Prefix o) a ∙ (ap (type_by_unary (unary.Prefix o)) (type_is d) ∙ prefix_type o v)
type_is (typing.call {a = a} o v d) = type-unary (unary.Call o) a ∙ (ap (type_by_unary (unary.Call o)) (type_is d) ∙ call_type o v)
type_is (typing.inverse {a = a} v d) = type-unary unary.Inverse a ∙ (ap (type_by_unary unary.Inverse) (type_is d) ∙ inverse_type v)
type_is (typing.defined {a = a} t d) = type-unary unary.Defined a
type_is (typing.functional {a = a} s t d) = type-unary unary.Functional a
type_is (typing.part {a = a} x s t d) = type-unary (unary.Part x) a ∙ (ap (option_and_then (part_of_type x)) (type_is d) ∙ part_type x s t)
type_is (typing.operator {a = a} {b = b} o v d e) = type-binary (binary.Operator o) a b ∙ (ap₂ (type_by_binary (binary.Operator o)) (type_is d) (type_is e) ∙ operator_type o v)
type_is (typing.both {p = p} {q = q} d e) = type-binary binary.Both p q
type_is (typing.«if» {p = p} {s = s} t d e) = type-binary binary.If p s ∙ type_is e
type_is (typing.extension {e = e} {es = es} t (typing.more d ds)) = type-many many.Extension (e ∷ es) ∙ ap (option_map power) (type_is d)
type_is (typing.partition {e = e} {es = es} t d) = type-many many.Partition (e ∷ es)
type_is (typing.quantified_over {e = e} {p = p} _ t typing.for_all d g) = type-over binder.ForAll e p
type_is (typing.quantified_over {e = e} {p = p} _ t typing.exists d g) = type-over binder.Exists e p
type_is (typing.quantified {p = p} _ t typing.for_all g) = type-all binder.ForAll t p
type_is (typing.quantified {p = p} _ t typing.exists g) = type-all binder.Exists t p
type_is (typing.collected_over {e = e} {s = s} t u d g) = type-over binder.Collect e s ∙ type_is g
type_is (typing.collected {s = s} t u g) = type-all binder.Collect t s ∙ type_is g
