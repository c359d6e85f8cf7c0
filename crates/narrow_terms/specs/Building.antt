-- Terms that narrow form is built of: its operators, and what it writes of `partition`.
use Rattle.std.specs.Prelude.{ℕ, true, false, List, [], ◌∷◌, pos}
use Rattle.eb_syntax.specs.declared.ast.Prefix.TheVariants as prefix
use Rattle.eb_syntax.specs.declared.ast.Call.TheVariants as call
use Rattle.eb_syntax.specs.declared.ast.Operator.{Operator}
use Rattle.eb_syntax.specs.declared.ast.Operator.TheVariants as op
use Rattle.eb_value.specs.declared.types.EbType.{EbType}
use Rattle.eb_value.specs.Types.{power}
use Rattle.eb_value.specs.Values.{set}
use Rattle.eb_term.specs.declared.operators.Unary.TheVariants as unary
use Rattle.eb_term.specs.declared.operators.Binary.TheVariants as binary
use Rattle.eb_term.specs.declared.operators.Many.TheVariants as many
use Rattle.eb_term.specs.declared.operators.Infinite.{Infinite}
use Rattle.eb_term.specs.declared.operators.Infinite.TheVariants as infinite
use Rattle.eb_term.specs.declared.operators.Side.{Side}
use Rattle.eb_term.specs.declared.term.Term.{Term}
use Rattle.eb_term.specs.Terms as term

-- ---- the operators of narrow terms

abbrev pub operation : Operator → Term → Term → Term
operation o a b = term.binary (binary.Operator o) a b

abbrev pub negation : Term → Term
negation p = term.unary (unary.Prefix prefix.Not) p

abbrev pub conjunction : Term → Term → Term
conjunction p q = operation op.And p q

abbrev pub both : Term → Term → Term
both p q = term.binary binary.Both p q

abbrev pub equal : Term → Term → Term
equal a b = operation op.Equal a b

abbrev pub at_most : Term → Term → Term
at_most a b = operation op.AtMost a b

abbrev pub member : Term → Term → Term
member e s = operation op.MemberOf e s

abbrev pub subset : Term → Term → Term
subset s t = operation op.SubsetOf s t

abbrev pub part : Side → Term → Term
part s e = term.unary (unary.Part s) e

abbrev pub domain : Term → Term
domain r = term.unary (unary.Call call.Domain) r

abbrev pub range : Term → Term
range r = term.unary (unary.Call call.Range) r

abbrev pub inverse : Term → Term
inverse r = term.unary unary.Inverse r

abbrev pub functional : Term → Term
functional r = term.unary unary.Functional r

abbrev pub extension : Term → Term
extension e = term.many many.Extension (e ∷ [])

abbrev pub pair : Term → Term → Term
pair a b = operation op.MapsTo a b

abbrev pub is_defined : Term → Term
is_defined e = equal e e

-- the empty set of this type
abbrev pub empty_set : EbType → Term
empty_set t = term.literal (set []) t

-- a set of this type without a value, the intersection of no sets: what a form is where it stands as an expression, which no text
-- can have
abbrev pub no_value : EbType → Term
no_value t = term.unary (unary.Call call.GeneralizedIntersection) (empty_set (power t))

-- the whole value of a binder
abbrev pub whole : ℕ → EbType → Term
whole k t = term.variable k [] t

-- each is, from the left; one at least
abbrev pub both_on : Term → List Term → Term
both_on p [] = p
both_on p (q ∷ qs) = both_on (both p q) qs

abbrev pub both_of : List Term → Term
both_of [] = term.truth true
both_of (p ∷ ps) = both_on p ps

-- that e is an integer of this set
abbrev pub infinite_has : Infinite → Term → Term
infinite_has infinite.Integers e = is_defined e
infinite_has infinite.Naturals e = at_most (term.integer (pos 0)) e
infinite_has infinite.PositiveNaturals e = at_most (term.integer (pos 1)) e

-- ---- partitions

-- the union, from the left
abbrev pub union_on : Term → List Term → Term
union_on s [] = s
union_on s (t ∷ ts) = union_on (operation op.Union s t) ts

abbrev pub union_of : EbType → List Term → Term
union_of t [] = empty_set t
union_of t (s ∷ ss) = union_on s ss

-- of two parts no value is in both: the union of those before is without each
abbrev pub are_apart : EbType → Term → List Term → List Term
are_apart t before [] = []
are_apart t before (s ∷ ss) = equal (operation op.Intersection before s) (empty_set t) ∷ are_apart t (operation op.Union before s) ss

-- partition(s, s1, ..)
abbrev pub disjoint_parts : EbType → List Term → List Term
disjoint_parts t [] = []
disjoint_parts t (s ∷ ss) = are_apart t s ss

abbrev pub partition : EbType → List Term → Term
partition t [] = term.truth false
partition t (s ∷ ss) = both_on (equal s (union_of t ss)) (disjoint_parts t ss)
