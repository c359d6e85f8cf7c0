-- The table of types: what each operator asks of its parts, and what the whole is. A row holds for any types that its
-- letters stand for. R(a, b), the type of the relations from a to b, is POW(a ** b).
use Rattle.std.specs.Prelude.{ℕ, Bool, true, false}
use Rattle.eb_value.specs.declared.types.EbType.{EbType}
use Rattle.eb_value.specs.Types.{integer, boolean, carrier, product, power}
use Rattle.eb_syntax.specs.declared.ast.Constant.{Constant}
use Rattle.eb_syntax.specs.declared.ast.Constant.TheVariants as constant
use Rattle.eb_syntax.specs.declared.ast.Prefix.{Prefix}
use Rattle.eb_syntax.specs.declared.ast.Prefix.TheVariants as prefix
use Rattle.eb_syntax.specs.declared.ast.Call.{Call}
use Rattle.eb_syntax.specs.declared.ast.Call.TheVariants as call
use Rattle.eb_syntax.specs.declared.ast.Operator.{Operator}
use Rattle.eb_syntax.specs.declared.ast.Operator.TheVariants as op
use Rattle.type_table.specs.declared.pattern.Letter.{Letter}
use Rattle.type_table.specs.declared.pattern.Letter.TheVariants.{A, B, C, D}
use Rattle.type_table.specs.declared.pattern.Pattern.{Pattern}
use Rattle.type_table.specs.declared.pattern.Pattern.TheVariants as p
use Rattle.type_table.specs.declared.pattern.UnaryRow.{UnaryRow}
use Rattle.type_table.specs.declared.pattern.BinaryRow.{BinaryRow}
use Rattle.type_table.specs.declared.pattern.TernaryRow.{TernaryRow}

-- A formula is a predicate, or an expression with its type.
pub data Sort : Type 0 where
  predicate : Sort
  expression : EbType → Sort

-- the types that the letters of a row stand for
pub record Choice : Type 0 where
  pub for_a : EbType
  pub for_b : EbType
  pub for_c : EbType
  pub for_d : EbType

abbrev pub chosen : Choice → Letter → EbType
chosen v A = v.for_a
chosen v B = v.for_b
chosen v C = v.for_c
chosen v D = v.for_d

abbrev pub relation : EbType → EbType → EbType
relation s t = power (product s t)

-- what a pattern says when its letters stand for these types
abbrev pub sort : Choice → Pattern → Sort
sort v p.Predicate = predicate
sort v p.Integer = expression integer
sort v p.Boolean = expression boolean
sort v p.Integers = expression (power integer)
sort v p.Booleans = expression (power boolean)
sort v (p.Atoms s) = expression (power (carrier s))
sort v (p.Type x) = expression (chosen v x)
sort v (p.Pair x y) = expression (product (chosen v x) (chosen v y))
sort v (p.Set x) = expression (power (chosen v x))
sort v (p.Sets x) = expression (power (power (chosen v x)))
sort v (p.Relation x y) = expression (relation (chosen v x) (chosen v y))
sort v (p.Relations x y) = expression (power (relation (chosen v x) (chosen v y)))
sort v p.ToPairs = expression (relation v.for_a (product v.for_b v.for_c))
sort v p.BetweenPairs = expression (relation (product v.for_a v.for_b) (product v.for_c v.for_d))
sort v p.ToFirst = expression (relation (product v.for_a v.for_b) v.for_a)
sort v p.ToSecond = expression (relation (product v.for_a v.for_b) v.for_b)

abbrev pub unary : Pattern → Pattern → UnaryRow
unary part whole = record { part = part; whole = whole }

abbrev pub binary : Pattern → Pattern → Pattern → BinaryRow
binary left right whole = record { left = left; right = right; whole = whole }

abbrev pub ternary : Pattern → Pattern → Pattern → Pattern → TernaryRow
ternary first second third whole = record { first = first; second = second; third = third; whole = whole }

-- what a constant is
abbrev pub constant_pattern : Constant → Pattern
constant_pattern constant.Truth = p.Predicate
constant_pattern constant.Falsity = p.Predicate
constant_pattern constant.Integers = p.Integers
constant_pattern constant.Naturals = p.Integers
constant_pattern constant.PositiveNaturals = p.Integers
constant_pattern constant.Booleans = p.Booleans
constant_pattern constant.TrueValue = p.Boolean
constant_pattern constant.FalseValue = p.Boolean
constant_pattern constant.Identity = p.Relation A A
constant_pattern constant.FirstProjection = p.ToFirst
constant_pattern constant.SecondProjection = p.ToSecond
constant_pattern constant.EmptySet = p.Set A

abbrev pub prefix_row : Prefix → UnaryRow
prefix_row prefix.Not = unary p.Predicate p.Predicate
prefix_row prefix.Minus = unary p.Integer p.Integer

abbrev pub call_row : Call → UnaryRow
call_row call.PowerSet = unary (p.Set A) (p.Sets A)
call_row call.NonemptyPowerSet = unary (p.Set A) (p.Sets A)
call_row call.Cardinality = unary (p.Set A) p.Integer
call_row call.Minimum = unary p.Integers p.Integer
call_row call.Maximum = unary p.Integers p.Integer
call_row call.Domain = unary (p.Relation A B) (p.Set A)
call_row call.Range = unary (p.Relation A B) (p.Set B)
call_row call.GeneralizedUnion = unary (p.Sets A) (p.Set A)
call_row call.GeneralizedIntersection = unary (p.Sets A) (p.Set A)
call_row call.BoolOf = unary p.Predicate p.Boolean
call_row call.Finite = unary (p.Set A) p.Predicate

-- the converse of a relation
abbrev pub inverse_row : UnaryRow
inverse_row = unary (p.Relation A B) (p.Relation B A)

-- `!` and `#`
abbrev pub quantifier_row : UnaryRow
quantifier_row = unary p.Predicate p.Predicate

-- {x.P|E}
abbrev pub comprehension_row : BinaryRow
comprehension_row = binary p.Predicate (p.Type A) (p.Set A)

-- {E|P}
abbrev pub builder_row : BinaryRow
builder_row = binary (p.Type A) p.Predicate (p.Set A)

-- %p.P|E, by p, P and E
abbrev pub lambda_row : TernaryRow
lambda_row = ternary (p.Type A) p.Predicate (p.Type B) (p.Relation A B)

-- UNION x.P|E and INTER x.P|E
abbrev pub gathering_row : BinaryRow
gathering_row = binary p.Predicate (p.Set A) (p.Set A)

-- The rows of the operators, each by itself: none is left to a last line.
abbrev pub operator_row : Operator → BinaryRow
operator_row op.Implies = binary p.Predicate p.Predicate p.Predicate
operator_row op.Equivalent = binary p.Predicate p.Predicate p.Predicate
operator_row op.Or = binary p.Predicate p.Predicate p.Predicate
operator_row op.And = binary p.Predicate p.Predicate p.Predicate
operator_row op.Equal = binary (p.Type A) (p.Type A) p.Predicate
operator_row op.Unequal = binary (p.Type A) (p.Type A) p.Predicate
operator_row op.MemberOf = binary (p.Type A) (p.Set A) p.Predicate
operator_row op.NotMemberOf = binary (p.Type A) (p.Set A) p.Predicate
operator_row op.SubsetOf = binary (p.Set A) (p.Set A) p.Predicate
operator_row op.NotSubsetOf = binary (p.Set A) (p.Set A) p.Predicate
operator_row op.ProperSubsetOf = binary (p.Set A) (p.Set A) p.Predicate
operator_row op.NotProperSubsetOf = binary (p.Set A) (p.Set A) p.Predicate
operator_row op.Less = binary p.Integer p.Integer p.Predicate
operator_row op.AtMost = binary p.Integer p.Integer p.Predicate
operator_row op.Greater = binary p.Integer p.Integer p.Predicate
operator_row op.AtLeast = binary p.Integer p.Integer p.Predicate
operator_row op.MapsTo = binary (p.Type A) (p.Type B) (p.Pair A B)
operator_row op.UpTo = binary p.Integer p.Integer p.Integers
operator_row op.Plus = binary p.Integer p.Integer p.Integer
operator_row op.Minus = binary p.Integer p.Integer p.Integer
operator_row op.Times = binary p.Integer p.Integer p.Integer
operator_row op.Divide = binary p.Integer p.Integer p.Integer
operator_row op.Modulo = binary p.Integer p.Integer p.Integer
operator_row op.Power = binary p.Integer p.Integer p.Integer
operator_row op.Relation = binary (p.Set A) (p.Set B) (p.Relations A B)
operator_row op.TotalRelation = binary (p.Set A) (p.Set B) (p.Relations A B)
operator_row op.SurjectiveRelation = binary (p.Set A) (p.Set B) (p.Relations A B)
operator_row op.TotalSurjectiveRelation = binary (p.Set A) (p.Set B) (p.Relations A B)
operator_row op.PartialFunction = binary (p.Set A) (p.Set B) (p.Relations A B)
operator_row op.TotalFunction = binary (p.Set A) (p.Set B) (p.Relations A B)
operator_row op.PartialInjection = binary (p.Set A) (p.Set B) (p.Relations A B)
operator_row op.TotalInjection = binary (p.Set A) (p.Set B) (p.Relations A B)
operator_row op.PartialSurjection = binary (p.Set A) (p.Set B) (p.Relations A B)
operator_row op.TotalSurjection = binary (p.Set A) (p.Set B) (p.Relations A B)
operator_row op.Bijection = binary (p.Set A) (p.Set B) (p.Relations A B)
operator_row op.Union = binary (p.Set A) (p.Set A) (p.Set A)
operator_row op.Intersection = binary (p.Set A) (p.Set A) (p.Set A)
operator_row op.Difference = binary (p.Set A) (p.Set A) (p.Set A)
operator_row op.Product = binary (p.Set A) (p.Set B) (p.Relation A B)
operator_row op.ForwardComposition = binary (p.Relation A B) (p.Relation B C) (p.Relation A C)
operator_row op.BackwardComposition = binary (p.Relation B C) (p.Relation A B) (p.Relation A C)
operator_row op.DomainRestriction = binary (p.Set A) (p.Relation A B) (p.Relation A B)
operator_row op.DomainSubtraction = binary (p.Set A) (p.Relation A B) (p.Relation A B)
operator_row op.RangeRestriction = binary (p.Relation A B) (p.Set B) (p.Relation A B)
operator_row op.RangeSubtraction = binary (p.Relation A B) (p.Set B) (p.Relation A B)
operator_row op.Override = binary (p.Relation A B) (p.Relation A B) (p.Relation A B)
operator_row op.DirectProduct = binary (p.Relation A B) (p.Relation A C) p.ToPairs
operator_row op.ParallelProduct = binary (p.Relation A C) (p.Relation B D) p.BetweenPairs
operator_row op.Apply = binary (p.Relation A B) (p.Type A) (p.Type B)
operator_row op.Image = binary (p.Relation A B) (p.Set A) (p.Set B)

-- x := E, taken as a predicate
abbrev pub assignment_row : BinaryRow
assignment_row = binary (p.Type A) (p.Type A) p.Predicate

-- f(E) := F, by f, E and F
abbrev pub assignment_at_row : TernaryRow
assignment_at_row = ternary (p.Relation A B) (p.Type A) (p.Type B) p.Predicate

-- x :: S
abbrev pub choice_row : BinaryRow
choice_row = binary (p.Type A) (p.Set A) p.Predicate

-- the carrier set with this number, where it is declared
abbrev pub carrier_row : ℕ → UnaryRow
carrier_row place = unary (p.Atoms place) p.Predicate
