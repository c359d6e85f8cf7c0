-- Signs, what they begin and how they go on with a formula.
use Rattle.std.proofs.Common.{◌≡◌, ◌∙◌, true, false, refl, ap}
use Rattle.std.specs.Prelude.{Option, Some, None}
use denote.Enum.Bare.{same_true, true_same}
use Rattle.eb_signs.specs.contracts.sign.Sign.{the_type}
use Rattle.eb_signs.specs.declared.sign.Sign.{Sign}
use Rattle.eb_signs.specs.declared.sign.Sign.TheVariants as s
use Rattle.eb_lexer.specs.declared.token.Token.{Token}
use Rattle.eb_lexer.specs.declared.token.TokenKind.{TokenKind}
use Rattle.eb_lexer.specs.declared.token.TokenKind.TheVariants as kind
use Rattle.eb_syntax.specs.declared.ast.Constant.{Constant}
use Rattle.eb_syntax.specs.declared.ast.Constant.TheVariants as constant
use Rattle.eb_syntax.specs.declared.ast.Prefix.{Prefix}
use Rattle.eb_syntax.specs.declared.ast.Prefix.TheVariants as prefix
use Rattle.eb_syntax.specs.declared.ast.Call.{Call}
use Rattle.eb_syntax.specs.declared.ast.Call.TheVariants as call
use Rattle.eb_syntax.specs.declared.ast.Operator.{Operator}
use Rattle.eb_syntax.specs.declared.ast.Operator.TheVariants as op
use Rattle.eb_syntax.specs.declared.ast.Quantifier.{Quantifier}
use Rattle.eb_syntax.specs.declared.ast.Quantifier.TheVariants as quantifier
use Rattle.eb_syntax.specs.declared.ast.Binder.{Binder}
use Rattle.eb_syntax.specs.declared.ast.Binder.TheVariants as binder
use Rattle.eb_parser.specs.declared.table.Start.{Start}
use Rattle.eb_parser.specs.declared.table.Start.TheVariants as start
use Rattle.eb_parser.specs.declared.table.Follow.{Follow}
use Rattle.eb_parser.specs.declared.table.Follow.TheVariants as follow
use Rattle.eb_parser.specs.Signs.{IsSign, is_sign, constant_sign, prefix_sign, call_sign, quantifier_sign, binder_sign, operator_sign}
use Rattle.eb_signs.specs.Signs.{same_sign}
use Rattle.eb_lexer.specs.Tokens.{is_kind}
use Rattle.eb_parser.specs.steps.Tables.{start_of, follow_of, follow_kind}

kind_true : (sign : Sign) (k : TokenKind) → is_kind sign k ≡ true → k ≡ kind.Sign sign
unfolding same_sign
kind_true sign (kind.Word x) e = absurd cc
kind_true sign (kind.Primed x) e = absurd cc
kind_true sign (kind.Label x) e = absurd cc
kind_true sign (kind.Number n) e = absurd cc
kind_true sign (kind.Sign r) e = ap kind.Sign (same_true the_type tt r sign e)

pub sign_true : (sign : Sign) (t : Token) → is_sign sign t ≡ true → IsSign t sign
sign_true sign t e = kind_true sign t.kind e

same_self : (sign : Sign) → same_sign sign sign ≡ true
unfolding same_sign
same_self sign = true_same the_type sign sign refl

pub sign_is : (sign : Sign) (t : Token) → IsSign t sign → is_sign sign t ≡ true
sign_is sign t e = ap (is_kind sign) e ∙ same_self sign

pub sign_other : (a b : Sign) (t : Token) → IsSign t a → same_sign a b ≡ false → is_sign b t ≡ false
sign_other a b t e h = ap (is_kind b) e ∙ h

-- the sign of what goes on with a formula
abbrev pub follow_sign : Follow → Sign
follow_sign (follow.Operator op) = operator_sign op
follow_sign follow.Inverse = s.Inverse

follow_spelled : Sign → Option Follow → Sign
follow_spelled sign None = sign
follow_spelled sign (Some f) = follow_sign f

follow_same : (sign : Sign) → sign ≡ follow_spelled sign (follow_of sign)
unfolding follow_spelled
follow_same s.Implies = refl
follow_same s.Equivalent = refl
follow_same s.Or = refl
follow_same s.And = refl
follow_same s.Equal = refl
follow_same s.Unequal = refl
follow_same s.MemberOf = refl
follow_same s.NotMemberOf = refl
follow_same s.SubsetOf = refl
follow_same s.NotSubsetOf = refl
follow_same s.ProperSubsetOf = refl
follow_same s.NotProperSubsetOf = refl
follow_same s.Less = refl
follow_same s.AtMost = refl
follow_same s.Greater = refl
follow_same s.AtLeast = refl
follow_same s.MapsTo = refl
follow_same s.Relation = refl
follow_same s.TotalRelation = refl
follow_same s.SurjectiveRelation = refl
follow_same s.TotalSurjectiveRelation = refl
follow_same s.PartialFunction = refl
follow_same s.TotalFunction = refl
follow_same s.PartialInjection = refl
follow_same s.TotalInjection = refl
follow_same s.PartialSurjection = refl
follow_same s.TotalSurjection = refl
follow_same s.Bijection = refl
follow_same s.Union = refl
follow_same s.Intersection = refl
follow_same s.Difference = refl
follow_same s.Product = refl
follow_same s.ForwardComposition = refl
follow_same s.BackwardComposition = refl
follow_same s.DomainRestriction = refl
follow_same s.DomainSubtraction = refl
follow_same s.RangeRestriction = refl
follow_same s.RangeSubtraction = refl
follow_same s.Override = refl
follow_same s.DirectProduct = refl
follow_same s.ParallelProduct = refl
follow_same s.UpTo = refl
follow_same s.Plus = refl
follow_same s.Minus = refl
follow_same s.Times = refl
follow_same s.Divide = refl
follow_same s.Modulo = refl
follow_same s.Power = refl
follow_same s.LeftParenthesis = refl
follow_same s.LeftBracket = refl
follow_same s.Inverse = refl
follow_same _ = refl

pub follow_some : (sign : Sign) (f : Follow) → follow_of sign ≡ Some f → sign ≡ follow_sign f
unfolding follow_spelled
follow_some sign f e = follow_same sign ∙ ap (follow_spelled sign) e

operator_follows : (op : Operator) → follow_of (operator_sign op) ≡ Some (follow.Operator op)
operator_follows op.Implies = refl
operator_follows op.Equivalent = refl
operator_follows op.Or = refl
operator_follows op.And = refl
operator_follows op.Equal = refl
operator_follows op.Unequal = refl
operator_follows op.MemberOf = refl
operator_follows op.NotMemberOf = refl
operator_follows op.SubsetOf = refl
operator_follows op.NotSubsetOf = refl
operator_follows op.ProperSubsetOf = refl
operator_follows op.NotProperSubsetOf = refl
operator_follows op.Less = refl
operator_follows op.AtMost = refl
operator_follows op.Greater = refl
operator_follows op.AtLeast = refl
operator_follows op.MapsTo = refl
operator_follows op.Relation = refl
operator_follows op.TotalRelation = refl
operator_follows op.SurjectiveRelation = refl
operator_follows op.TotalSurjectiveRelation = refl
operator_follows op.PartialFunction = refl
operator_follows op.TotalFunction = refl
operator_follows op.PartialInjection = refl
operator_follows op.TotalInjection = refl
operator_follows op.PartialSurjection = refl
operator_follows op.TotalSurjection = refl
operator_follows op.Bijection = refl
operator_follows op.Union = refl
operator_follows op.Intersection = refl
operator_follows op.Difference = refl
operator_follows op.Product = refl
operator_follows op.ForwardComposition = refl
operator_follows op.BackwardComposition = refl
operator_follows op.DomainRestriction = refl
operator_follows op.DomainSubtraction = refl
operator_follows op.RangeRestriction = refl
operator_follows op.RangeSubtraction = refl
operator_follows op.Override = refl
operator_follows op.DirectProduct = refl
operator_follows op.ParallelProduct = refl
operator_follows op.UpTo = refl
operator_follows op.Plus = refl
operator_follows op.Minus = refl
operator_follows op.Times = refl
operator_follows op.Divide = refl
operator_follows op.Modulo = refl
operator_follows op.Power = refl
operator_follows op.Apply = refl
operator_follows op.Image = refl

pub follows_sign : (f : Follow) → follow_of (follow_sign f) ≡ Some f
follows_sign (follow.Operator op) = operator_follows op
follows_sign follow.Inverse = refl

pub kind_follow : (k : TokenKind) (f : Follow) → follow_kind k ≡ Some f → k ≡ kind.Sign (follow_sign f)
kind_follow (kind.Word x) f e = absurd cc
kind_follow (kind.Primed x) f e = absurd cc
kind_follow (kind.Label x) f e = absurd cc
kind_follow (kind.Number n) f e = absurd cc
kind_follow (kind.Sign sign) f e = ap kind.Sign (follow_some sign f e)

start_spelled : Sign → Start → Sign
start_spelled sign (start.Constant c) = constant_sign c
start_spelled sign (start.Prefix op) = prefix_sign op
start_spelled sign (start.Quantifier q) = quantifier_sign q
start_spelled sign (start.Binder op) = binder_sign op
start_spelled sign (start.Call op) = call_sign op
start_spelled sign start.Partition = s.Partition
start_spelled sign start.Parenthesis = s.LeftParenthesis
start_spelled sign start.Brace = s.LeftBrace
start_spelled sign start.Other = sign

start_same : (sign : Sign) → sign ≡ start_spelled sign (start_of sign)
unfolding start_spelled
start_same s.Truth = refl
start_same s.Falsity = refl
start_same s.Integers = refl
start_same s.Naturals = refl
start_same s.PositiveNaturals = refl
start_same s.Booleans = refl
start_same s.TrueValue = refl
start_same s.FalseValue = refl
start_same s.Identity = refl
start_same s.FirstProjection = refl
start_same s.SecondProjection = refl
start_same s.EmptySet = refl
start_same s.Not = refl
start_same s.Minus = refl
start_same s.ForAll = refl
start_same s.Exists = refl
start_same s.Lambda = refl
start_same s.QuantifiedUnion = refl
start_same s.QuantifiedIntersection = refl
start_same s.PowerSet = refl
start_same s.NonemptyPowerSet = refl
start_same s.Cardinality = refl
start_same s.Minimum = refl
start_same s.Maximum = refl
start_same s.Domain = refl
start_same s.Range = refl
start_same s.GeneralizedUnion = refl
start_same s.GeneralizedIntersection = refl
start_same s.BoolOf = refl
start_same s.Finite = refl
start_same s.Partition = refl
start_same s.LeftParenthesis = refl
start_same s.LeftBrace = refl
start_same _ = refl

-- the sign that begins so
abbrev pub StartSign : Sign → Start → Type 0
StartSign sign (start.Constant c) = sign ≡ constant_sign c
StartSign sign (start.Prefix op) = sign ≡ prefix_sign op
StartSign sign (start.Quantifier q) = sign ≡ quantifier_sign q
StartSign sign (start.Binder op) = sign ≡ binder_sign op
StartSign sign (start.Call op) = sign ≡ call_sign op
StartSign sign start.Partition = sign ≡ s.Partition
StartSign sign start.Parenthesis = sign ≡ s.LeftParenthesis
StartSign sign start.Brace = sign ≡ s.LeftBrace
StartSign sign start.Other = Unit {0}

pub start_means : (sign : Sign) (x : Start) → start_of sign ≡ x → StartSign sign x
unfolding start_spelled
start_means sign (start.Constant c) e = start_same sign ∙ ap (start_spelled sign) e
start_means sign (start.Prefix op) e = start_same sign ∙ ap (start_spelled sign) e
start_means sign (start.Quantifier q) e = start_same sign ∙ ap (start_spelled sign) e
start_means sign (start.Binder op) e = start_same sign ∙ ap (start_spelled sign) e
start_means sign (start.Call op) e = start_same sign ∙ ap (start_spelled sign) e
start_means sign start.Partition e = start_same sign ∙ ap (start_spelled sign) e
start_means sign start.Parenthesis e = start_same sign ∙ ap (start_spelled sign) e
start_means sign start.Brace e = start_same sign ∙ ap (start_spelled sign) e
start_means sign start.Other e = tt

pub constant_starts : (c : Constant) → start_of (constant_sign c) ≡ start.Constant c
constant_starts constant.Truth = refl
constant_starts constant.Falsity = refl
constant_starts constant.Integers = refl
constant_starts constant.Naturals = refl
constant_starts constant.PositiveNaturals = refl
constant_starts constant.Booleans = refl
constant_starts constant.TrueValue = refl
constant_starts constant.FalseValue = refl
constant_starts constant.Identity = refl
constant_starts constant.FirstProjection = refl
constant_starts constant.SecondProjection = refl
constant_starts constant.EmptySet = refl

pub prefix_starts : (op : Prefix) → start_of (prefix_sign op) ≡ start.Prefix op
prefix_starts prefix.Not = refl
prefix_starts prefix.Minus = refl

pub quantifier_starts : (q : Quantifier) → start_of (quantifier_sign q) ≡ start.Quantifier q
quantifier_starts quantifier.ForAll = refl
quantifier_starts quantifier.Exists = refl

pub binder_starts : (op : Binder) → start_of (binder_sign op) ≡ start.Binder op
binder_starts binder.Lambda = refl
binder_starts binder.Union = refl
binder_starts binder.Intersection = refl

pub call_starts : (op : Call) → start_of (call_sign op) ≡ start.Call op
call_starts call.PowerSet = refl
call_starts call.NonemptyPowerSet = refl
call_starts call.Cardinality = refl
call_starts call.Minimum = refl
call_starts call.Maximum = refl
call_starts call.Domain = refl
call_starts call.Range = refl
call_starts call.GeneralizedUnion = refl
call_starts call.GeneralizedIntersection = refl
call_starts call.BoolOf = refl
call_starts call.Finite = refl
