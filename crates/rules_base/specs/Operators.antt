-- Which operators of terms have rules here, and what comes of a term.
use Rattle.std.specs.Prelude.{◌≡◌, Option, Some, None}
use Rattle.eb_syntax.specs.declared.ast.Prefix.TheVariants as prefix
use Rattle.eb_syntax.specs.declared.ast.Call.TheVariants as call
use Rattle.eb_syntax.specs.declared.ast.Operator.{Operator}
use Rattle.eb_syntax.specs.declared.ast.Operator.TheVariants as op
use Rattle.eb_term.specs.declared.operators.Unary.{Unary}
use Rattle.eb_term.specs.declared.operators.Unary.TheVariants as unary
use Rattle.eb_term.specs.declared.operators.Binary.{Binary}
use Rattle.eb_term.specs.declared.operators.Binary.TheVariants as binary
use Rattle.eb_meaning.specs.Meaning.{Env, Meaning}
use Rattle.occ_domains.specs.Domains.{Outcome, truth, slot}
use Rattle.rules_integers.specs.declared.arithmetic.Arithmetic.TheVariants as by
use Rattle.rules_base.specs.declared.connective.Connective.TheVariants as connective
use Rattle.rules_base.specs.declared.rule.UnaryRule.{UnaryRule}
use Rattle.rules_base.specs.declared.rule.UnaryRule.TheVariants as one
use Rattle.rules_base.specs.declared.rule.BinaryRule.{BinaryRule}
use Rattle.rules_base.specs.declared.rule.BinaryRule.TheVariants as two

abbrev pub unary_rule : Unary → Option UnaryRule
unary_rule (unary.Prefix prefix.Not) = Some one.Negation
unary_rule (unary.Call call.BoolOf) = Some one.AsValue
unary_rule unary.Defined = Some one.Defined
unary_rule (unary.Part s) = Some (one.Part s)
unary_rule _ = None

abbrev pub operator_rule : Operator → Option BinaryRule
operator_rule op.And = Some (two.Connective connective.And)
operator_rule op.Or = Some (two.Connective connective.Or)
operator_rule op.Implies = Some (two.Connective connective.Implies)
operator_rule op.Equivalent = Some (two.Connective connective.Equivalent)
operator_rule op.Equal = Some two.Equal
operator_rule op.AtMost = Some two.AtMost
operator_rule op.MapsTo = Some two.Pair
operator_rule op.Plus = Some (two.Arithmetic by.Sum)
operator_rule op.Minus = Some (two.Arithmetic by.Difference)
operator_rule op.Times = Some (two.Arithmetic by.Product)
operator_rule op.Divide = Some (two.Arithmetic by.Quotient)
operator_rule op.Modulo = Some (two.Arithmetic by.Remainder)
operator_rule op.Power = Some (two.Arithmetic by.Power)
operator_rule _ = None

abbrev pub binary_rule : Binary → Option BinaryRule
binary_rule (binary.Operator o) = operator_rule o
binary_rule binary.Both = Some (two.Connective connective.Both)
binary_rule binary.If = None

-- this comes of a term with the meaning: it is the truth of a predicate, or the value of an expression or Undefined
abbrev pub Comes : Meaning → Env → Outcome → Type 0
Comes m env (truth p) = m.truth env ≡ p
Comes m env (slot e) = m.value env ≡ e
