-- The signs that spell what a formula is made of.
use Rattle.std.specs.Prelude.{Bool, Option, Some, None, ◌≡◌}
use Rattle.eb_signs.specs.declared.sign.Sign.{Sign}
use Rattle.eb_signs.specs.declared.sign.Sign.TheVariants as s
use Rattle.eb_lexer.specs.Tokens.{is_kind}
use Rattle.eb_lexer.specs.declared.token.Token.{Token}
use Rattle.eb_lexer.specs.declared.token.TokenKind.TheVariants as kind
use Rattle.eb_syntax.specs.declared.ast.Constant.{Constant}
use Rattle.eb_syntax.specs.declared.ast.Constant.TheVariants as constant
use Rattle.eb_syntax.specs.declared.ast.Prefix.{Prefix}
use Rattle.eb_syntax.specs.declared.ast.Prefix.TheVariants as prefix
use Rattle.eb_syntax.specs.declared.ast.Call.{Call}
use Rattle.eb_syntax.specs.declared.ast.Call.TheVariants as call
use Rattle.eb_syntax.specs.declared.ast.Operator.{Operator}
use Rattle.eb_syntax.specs.declared.ast.Operator.TheVariants as op
use Rattle.eb_syntax.specs.declared.ast.Quantifier.{Quantifier}
use Rattle.eb_syntax.specs.declared.ast.Quantifier.TheVariants as quantifier
use Rattle.eb_syntax.specs.declared.ast.Binder.{Binder}
use Rattle.eb_syntax.specs.declared.ast.Binder.TheVariants as binder

-- the token is this sign
abbrev pub IsSign : Token → Sign → Type 0
IsSign t sign = t.kind ≡ kind.Sign sign

abbrev pub constant_sign : Constant → Sign
constant_sign constant.Truth = s.Truth
constant_sign constant.Falsity = s.Falsity
constant_sign constant.Integers = s.Integers
constant_sign constant.Naturals = s.Naturals
constant_sign constant.PositiveNaturals = s.PositiveNaturals
constant_sign constant.Booleans = s.Booleans
constant_sign constant.TrueValue = s.TrueValue
constant_sign constant.FalseValue = s.FalseValue
constant_sign constant.Identity = s.Identity
constant_sign constant.FirstProjection = s.FirstProjection
constant_sign constant.SecondProjection = s.SecondProjection
constant_sign constant.EmptySet = s.EmptySet

abbrev pub prefix_sign : Prefix → Sign
prefix_sign prefix.Not = s.Not
prefix_sign prefix.Minus = s.Minus

abbrev pub call_sign : Call → Sign
call_sign call.PowerSet = s.PowerSet
call_sign call.NonemptyPowerSet = s.NonemptyPowerSet
call_sign call.Cardinality = s.Cardinality
call_sign call.Minimum = s.Minimum
call_sign call.Maximum = s.Maximum
call_sign call.Domain = s.Domain
call_sign call.Range = s.Range
call_sign call.GeneralizedUnion = s.GeneralizedUnion
call_sign call.GeneralizedIntersection = s.GeneralizedIntersection
call_sign call.BoolOf = s.BoolOf
call_sign call.Finite = s.Finite

abbrev pub quantifier_sign : Quantifier → Sign
quantifier_sign quantifier.ForAll = s.ForAll
quantifier_sign quantifier.Exists = s.Exists

abbrev pub binder_sign : Binder → Sign
binder_sign binder.Lambda = s.Lambda
binder_sign binder.Union = s.QuantifiedUnion
binder_sign binder.Intersection = s.QuantifiedIntersection

-- the sign between the two parts; of an application and an image the bracket that opens
abbrev pub operator_sign : Operator → Sign
operator_sign op.Implies = s.Implies
operator_sign op.Equivalent = s.Equivalent
operator_sign op.Or = s.Or
operator_sign op.And = s.And
operator_sign op.Equal = s.Equal
operator_sign op.Unequal = s.Unequal
operator_sign op.MemberOf = s.MemberOf
operator_sign op.NotMemberOf = s.NotMemberOf
operator_sign op.SubsetOf = s.SubsetOf
operator_sign op.NotSubsetOf = s.NotSubsetOf
operator_sign op.ProperSubsetOf = s.ProperSubsetOf
operator_sign op.NotProperSubsetOf = s.NotProperSubsetOf
operator_sign op.Less = s.Less
operator_sign op.AtMost = s.AtMost
operator_sign op.Greater = s.Greater
operator_sign op.AtLeast = s.AtLeast
operator_sign op.MapsTo = s.MapsTo
operator_sign op.Relation = s.Relation
operator_sign op.TotalRelation = s.TotalRelation
operator_sign op.SurjectiveRelation = s.SurjectiveRelation
operator_sign op.TotalSurjectiveRelation = s.TotalSurjectiveRelation
operator_sign op.PartialFunction = s.PartialFunction
operator_sign op.TotalFunction = s.TotalFunction
operator_sign op.PartialInjection = s.PartialInjection
operator_sign op.TotalInjection = s.TotalInjection
operator_sign op.PartialSurjection = s.PartialSurjection
operator_sign op.TotalSurjection = s.TotalSurjection
operator_sign op.Bijection = s.Bijection
operator_sign op.Union = s.Union
operator_sign op.Intersection = s.Intersection
operator_sign op.Difference = s.Difference
operator_sign op.Product = s.Product
operator_sign op.ForwardComposition = s.ForwardComposition
operator_sign op.BackwardComposition = s.BackwardComposition
operator_sign op.DomainRestriction = s.DomainRestriction
operator_sign op.DomainSubtraction = s.DomainSubtraction
operator_sign op.RangeRestriction = s.RangeRestriction
operator_sign op.RangeSubtraction = s.RangeSubtraction
operator_sign op.Override = s.Override
operator_sign op.DirectProduct = s.DirectProduct
operator_sign op.ParallelProduct = s.ParallelProduct
operator_sign op.UpTo = s.UpTo
operator_sign op.Plus = s.Plus
operator_sign op.Minus = s.Minus
operator_sign op.Times = s.Times
operator_sign op.Divide = s.Divide
operator_sign op.Modulo = s.Modulo
operator_sign op.Power = s.Power
operator_sign op.Apply = s.LeftParenthesis
operator_sign op.Image = s.LeftBracket

-- the bracket that closes behind the second part
abbrev pub closing_sign : Operator → Option Sign
closing_sign op.Apply = Some s.RightParenthesis
closing_sign op.Image = Some s.RightBracket
closing_sign _ = None

abbrev pub is_sign : Sign → Token → Bool
is_sign sign t = is_kind sign t.kind
