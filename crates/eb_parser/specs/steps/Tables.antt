-- What a sign begins, and how it goes on with a formula before it, as the reader tells them apart.
use Rattle.std.specs.Prelude.{List, [], ◌∷◌, Option, Some, None}
use Rattle.eb_signs.specs.declared.sign.Sign.{Sign}
use Rattle.eb_signs.specs.declared.sign.Sign.TheVariants as s
use Rattle.eb_lexer.specs.declared.token.Token.{Token}
use Rattle.eb_lexer.specs.declared.token.TokenKind.{TokenKind}
use Rattle.eb_lexer.specs.declared.token.TokenKind.TheVariants as kind
use Rattle.eb_syntax.specs.declared.ast.Constant.TheVariants as constant
use Rattle.eb_syntax.specs.declared.ast.Prefix.TheVariants as prefix
use Rattle.eb_syntax.specs.declared.ast.Call.TheVariants as call
use Rattle.eb_syntax.specs.declared.ast.Operator.TheVariants as op
use Rattle.eb_syntax.specs.declared.ast.Quantifier.TheVariants as quantifier
use Rattle.eb_syntax.specs.declared.ast.Binder.TheVariants as binder
use Rattle.eb_signs.specs.declared.levels.Group.{Group}
use Rattle.eb_signs.specs.declared.levels.Group.TheVariants as g
use Rattle.eb_parser.specs.declared.table.Start.{Start}
use Rattle.eb_parser.specs.declared.table.Start.TheVariants as start
use Rattle.eb_parser.specs.declared.table.Follow.{Follow}
use Rattle.eb_parser.specs.declared.table.Follow.TheVariants as follow
use Rattle.eb_signs.specs.Levels.{group_of}

abbrev pub start_of : Sign → Start
start_of s.Truth = start.Constant constant.Truth
start_of s.Falsity = start.Constant constant.Falsity
start_of s.Integers = start.Constant constant.Integers
start_of s.Naturals = start.Constant constant.Naturals
start_of s.PositiveNaturals = start.Constant constant.PositiveNaturals
start_of s.Booleans = start.Constant constant.Booleans
start_of s.TrueValue = start.Constant constant.TrueValue
start_of s.FalseValue = start.Constant constant.FalseValue
start_of s.Identity = start.Constant constant.Identity
start_of s.FirstProjection = start.Constant constant.FirstProjection
start_of s.SecondProjection = start.Constant constant.SecondProjection
start_of s.EmptySet = start.Constant constant.EmptySet
start_of s.Not = start.Prefix prefix.Not
start_of s.Minus = start.Prefix prefix.Minus
start_of s.ForAll = start.Quantifier quantifier.ForAll
start_of s.Exists = start.Quantifier quantifier.Exists
start_of s.Lambda = start.Binder binder.Lambda
start_of s.QuantifiedUnion = start.Binder binder.Union
start_of s.QuantifiedIntersection = start.Binder binder.Intersection
start_of s.PowerSet = start.Call call.PowerSet
start_of s.NonemptyPowerSet = start.Call call.NonemptyPowerSet
start_of s.Cardinality = start.Call call.Cardinality
start_of s.Minimum = start.Call call.Minimum
start_of s.Maximum = start.Call call.Maximum
start_of s.Domain = start.Call call.Domain
start_of s.Range = start.Call call.Range
start_of s.GeneralizedUnion = start.Call call.GeneralizedUnion
start_of s.GeneralizedIntersection = start.Call call.GeneralizedIntersection
start_of s.BoolOf = start.Call call.BoolOf
start_of s.Finite = start.Call call.Finite
start_of s.Partition = start.Partition
start_of s.LeftParenthesis = start.Parenthesis
start_of s.LeftBrace = start.Brace
start_of _ = start.Other

abbrev pub follow_of : Sign → Option Follow
follow_of s.Implies = Some (follow.Operator op.Implies)
follow_of s.Equivalent = Some (follow.Operator op.Equivalent)
follow_of s.Or = Some (follow.Operator op.Or)
follow_of s.And = Some (follow.Operator op.And)
follow_of s.Equal = Some (follow.Operator op.Equal)
follow_of s.Unequal = Some (follow.Operator op.Unequal)
follow_of s.MemberOf = Some (follow.Operator op.MemberOf)
follow_of s.NotMemberOf = Some (follow.Operator op.NotMemberOf)
follow_of s.SubsetOf = Some (follow.Operator op.SubsetOf)
follow_of s.NotSubsetOf = Some (follow.Operator op.NotSubsetOf)
follow_of s.ProperSubsetOf = Some (follow.Operator op.ProperSubsetOf)
follow_of s.NotProperSubsetOf = Some (follow.Operator op.NotProperSubsetOf)
follow_of s.Less = Some (follow.Operator op.Less)
follow_of s.AtMost = Some (follow.Operator op.AtMost)
follow_of s.Greater = Some (follow.Operator op.Greater)
follow_of s.AtLeast = Some (follow.Operator op.AtLeast)
follow_of s.MapsTo = Some (follow.Operator op.MapsTo)
follow_of s.Relation = Some (follow.Operator op.Relation)
follow_of s.TotalRelation = Some (follow.Operator op.TotalRelation)
follow_of s.SurjectiveRelation = Some (follow.Operator op.SurjectiveRelation)
follow_of s.TotalSurjectiveRelation = Some (follow.Operator op.TotalSurjectiveRelation)
follow_of s.PartialFunction = Some (follow.Operator op.PartialFunction)
follow_of s.TotalFunction = Some (follow.Operator op.TotalFunction)
follow_of s.PartialInjection = Some (follow.Operator op.PartialInjection)
follow_of s.TotalInjection = Some (follow.Operator op.TotalInjection)
follow_of s.PartialSurjection = Some (follow.Operator op.PartialSurjection)
follow_of s.TotalSurjection = Some (follow.Operator op.TotalSurjection)
follow_of s.Bijection = Some (follow.Operator op.Bijection)
follow_of s.Union = Some (follow.Operator op.Union)
follow_of s.Intersection = Some (follow.Operator op.Intersection)
follow_of s.Difference = Some (follow.Operator op.Difference)
follow_of s.Product = Some (follow.Operator op.Product)
follow_of s.ForwardComposition = Some (follow.Operator op.ForwardComposition)
follow_of s.BackwardComposition = Some (follow.Operator op.BackwardComposition)
follow_of s.DomainRestriction = Some (follow.Operator op.DomainRestriction)
follow_of s.DomainSubtraction = Some (follow.Operator op.DomainSubtraction)
follow_of s.RangeRestriction = Some (follow.Operator op.RangeRestriction)
follow_of s.RangeSubtraction = Some (follow.Operator op.RangeSubtraction)
follow_of s.Override = Some (follow.Operator op.Override)
follow_of s.DirectProduct = Some (follow.Operator op.DirectProduct)
follow_of s.ParallelProduct = Some (follow.Operator op.ParallelProduct)
follow_of s.UpTo = Some (follow.Operator op.UpTo)
follow_of s.Plus = Some (follow.Operator op.Plus)
follow_of s.Minus = Some (follow.Operator op.Minus)
follow_of s.Times = Some (follow.Operator op.Times)
follow_of s.Divide = Some (follow.Operator op.Divide)
follow_of s.Modulo = Some (follow.Operator op.Modulo)
follow_of s.Power = Some (follow.Operator op.Power)
follow_of s.LeftParenthesis = Some (follow.Operator op.Apply)
follow_of s.LeftBracket = Some (follow.Operator op.Image)
follow_of s.Inverse = Some follow.Inverse
follow_of _ = None

abbrev pub follow_kind : TokenKind → Option Follow
follow_kind (kind.Sign sign) = follow_of sign
follow_kind _ = None

-- what goes on with a formula before these tokens: a connective, a relation, an operator, `(`, `[` or `~`
abbrev pub head_follow : List Token → Option Follow
head_follow [] = None
head_follow (t ∷ ts) = follow_kind t.kind

abbrev pub row_of : Follow → Group
row_of (follow.Operator op) = group_of op
row_of follow.Inverse = g.Post
