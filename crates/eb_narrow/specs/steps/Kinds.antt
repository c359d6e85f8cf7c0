-- The kinds of operators in the steps of the code, and narrow form by them.
use Rattle.std.specs.Prelude.{ℕ, Bool, true, false, if◌then◌else◌, [], ◌∷◌, Option, None, pos}
use Rattle.eb_syntax.specs.declared.ast.Prefix.TheVariants as prefix
use Rattle.eb_syntax.specs.declared.ast.Call.TheVariants as call
use Rattle.eb_syntax.specs.declared.ast.Operator.{Operator}
use Rattle.eb_syntax.specs.declared.ast.Operator.TheVariants as op
use Rattle.eb_value.specs.declared.types.EbType.{EbType}
use Rattle.eb_term.specs.declared.operators.Unary.{Unary}
use Rattle.eb_term.specs.declared.operators.Unary.TheVariants as unary
use Rattle.eb_term.specs.declared.operators.Binary.{Binary}
use Rattle.eb_term.specs.declared.operators.Binary.TheVariants as binary
use Rattle.eb_term.specs.declared.operators.Side.{Side}
use Rattle.eb_term.specs.declared.operators.Side.TheVariants as side
use Rattle.eb_term.specs.declared.term.Term.{Term}
use Rattle.eb_term.specs.Terms as term
use Rattle.eb_meaning.specs.Meaning.{is_arrow, is_total, is_surjective}
use Rattle.narrow_terms.specs.Shifting.{shift}
use Rattle.narrow_terms.specs.Building.{operation, negation, equal, at_most, is_defined, both, subset}
use Rattle.eb_narrow.specs.Narrow.{Narrowed, expression, predicate, proper_subset, power_set, nonempty_power_set, product_form, arrow_form, union_of_members}
use Rattle.eb_narrow.specs.declared.kinds.UnaryKind.{UnaryKind}
use Rattle.eb_narrow.specs.declared.kinds.UnaryKind.TheVariants as kind
use Rattle.eb_narrow.specs.declared.kinds.Question.{Question}
use Rattle.eb_narrow.specs.declared.kinds.Question.TheVariants as question
use Rattle.eb_narrow.specs.declared.kinds.BinaryKind.{BinaryKind}
use Rattle.eb_narrow.specs.declared.kinds.BinaryKind.TheVariants as of

-- ---- kinds

abbrev pub unary_kind : Unary → UnaryKind
unary_kind (unary.Call call.PowerSet) = kind.PowerSet
unary_kind (unary.Call call.NonemptyPowerSet) = kind.NonemptyPowerSet
unary_kind (unary.Call call.GeneralizedUnion) = kind.UnionOfMembers
unary_kind _ = kind.Other

abbrev pub arrow_kind : Operator → BinaryKind
arrow_kind o = if is_arrow o then of.Arrow o else of.Other

abbrev pub operator_kind : Operator → BinaryKind
operator_kind op.MemberOf = of.Membership question.Has false
operator_kind op.NotMemberOf = of.Membership question.Has true
operator_kind op.SubsetOf = of.Membership question.HasMembers false
operator_kind op.NotSubsetOf = of.Membership question.HasMembers true
operator_kind op.ProperSubsetOf = of.Membership question.HasMore false
operator_kind op.NotProperSubsetOf = of.Membership question.HasMore true
operator_kind op.UpTo = of.Interval
operator_kind op.Product = of.Product
operator_kind o = arrow_kind o

abbrev pub binary_kind : Binary → BinaryKind
binary_kind (binary.Operator o) = operator_kind o
binary_kind binary.Both = of.Other
binary_kind binary.If = of.Other

-- a product is a value where neither side is a form
abbrev pub kind_with : BinaryKind → Bool → BinaryKind
kind_with of.Product false = of.Other
kind_with of.Product true = of.Product
kind_with k b = k

-- all of a side is asked
abbrev pub is_whole : Side → Operator → Bool
is_whole side.First arrow = is_total arrow
is_whole side.Second arrow = is_surjective arrow

-- ---- terms of narrow parts

abbrev pub one_part : Unary → Term → Term
one_part (unary.Prefix prefix.Not) a = negation a
one_part (unary.Prefix prefix.Minus) a = operation op.Minus (term.integer (pos 0)) a
one_part (unary.Call call.Finite) a = is_defined a
one_part o a = term.unary o a

abbrev pub compared : Operator → Term → Term → Term
compared op.Unequal a b = negation (equal a b)
compared op.Less a b = negation (at_most b a)
compared op.Greater a b = negation (at_most a b)
compared op.AtLeast a b = at_most b a
compared op.BackwardComposition a b = operation op.ForwardComposition b a
compared o a b = operation o a b

abbrev pub two_parts : Binary → Term → Term → Term
two_parts (binary.Operator o) a b = compared o a b
two_parts binary.Both a b = term.binary binary.Both a b
two_parts binary.If a b = term.binary binary.If a b

-- the answer to a question, and its negation
abbrev pub asked : Question → Narrowed → ℕ → Term → Term
asked question.Has f d e = f.has d 0 e
asked question.HasMembers f d e = f.has_members d 0 e
asked question.HasMore f d e = proper_subset (predicate (λ k. e)) f d

abbrev pub said : Bool → Term → Term
said true p = negation p
said false p = p

-- ---- narrow form by kinds

abbrev pub unary_type : Unary → Option EbType → Option EbType
unary_type (unary.Prefix prefix.Not) ty = None
unary_type (unary.Call call.Finite) ty = None
unary_type unary.Defined ty = None
unary_type unary.Functional ty = None
unary_type _ ty = ty

abbrev pub as_unary : UnaryKind → Unary → Option EbType → Narrowed → Narrowed
as_unary kind.PowerSet o ty a = power_set ty a
as_unary kind.NonemptyPowerSet o ty a = nonempty_power_set ty a
as_unary kind.UnionOfMembers o ty a = expression ty (union_of_members a)
as_unary kind.Other o ty a = expression (unary_type o ty) (λ d. one_part o (a.term d))

abbrev pub binary_type : Binary → Option EbType → Option EbType
binary_type (binary.Operator op.Unequal) ty = None
binary_type (binary.Operator op.Less) ty = None
binary_type (binary.Operator op.Greater) ty = None
binary_type (binary.Operator op.AtLeast) ty = None
binary_type binary.Both ty = None
binary_type _ ty = ty

-- an interval has what lies between its ends
abbrev pub between : Option EbType → (ℕ → Term) → Narrowed → Narrowed → Narrowed
between ty t a b = record {
  ty = ty;
  is_form = false;
  term = t;
  values = λ d. t d ∷ [];
  has = λ d x e. both (at_most (shift d x (a.term d)) e) (at_most e (shift d x (b.term d)));
  has_members = λ d x e. subset e (shift d x (t d));
  is_all = λ d x e. equal e (shift d x (t d));
}

abbrev pub as_binary : BinaryKind → Binary → Option EbType → Narrowed → Narrowed → Narrowed
as_binary (of.Arrow arrow) o ty a b = arrow_form arrow ty a b
as_binary of.Product o ty a b = product_form ty a b
as_binary of.Interval o ty a b = between (binary_type o ty) (λ d. two_parts o (a.term d) (b.term d)) a b
as_binary (of.Membership q n) o ty e f = predicate (λ d. said n (asked q f d (e.term d)))
as_binary of.Other o ty a b = expression (binary_type o ty) (λ d. two_parts o (a.term d) (b.term d))

abbrev pub is_form_kind : BinaryKind → Bool
is_form_kind (of.Arrow arrow) = true
is_form_kind of.Product = true
is_form_kind of.Interval = false
is_form_kind (of.Membership q n) = false
is_form_kind of.Other = false

-- a term of two parts behind the first, which is narrow
abbrev pub beyond : BinaryKind → Binary → Term → Narrowed → ℕ → Term
beyond (of.Membership q n) o a f d = said n (asked q f d a)
beyond _ o a f d = two_parts o a (f.term d)
