-- The rules: Up says what a formula may be by what its parts may be, Down what a part may be by the whole, itself and the other part.
-- Down to a part of an operator that is Undefined where a part is says something only where the whole isn't Undefined; then the part
-- isn't either.
use Rattle.std.specs.Prelude.{Bool, false, ◌||◌, if◌then◌else◌}
use Rattle.eb_term.specs.declared.operators.Side.{Side}
use Rattle.occ_domains.specs.declared.body.Body.{Body}
use Rattle.occ_domains.specs.declared.domain.Truths.{Truths}
use Rattle.occ_domains.specs.declared.domain.Domain.{Domain}
use Rattle.occ_domains.specs.declared.domain.Domain.TheVariants as domain
use Rattle.occ_domains.specs.Bodies.{pairs}
use Rattle.occ_domains.specs.Domains.{nothing}
use Rattle.rules_base.specs.declared.rule.UnaryRule.{UnaryRule}
use Rattle.rules_base.specs.declared.rule.UnaryRule.TheVariants as one
use Rattle.rules_base.specs.declared.rule.BinaryRule.{BinaryRule}
use Rattle.rules_base.specs.declared.rule.BinaryRule.TheVariants as two
use Rattle.rules_base.specs.Connectives as connectives
use Rattle.rules_base.specs.Definedness.{up_defined, down_defined, up_as_value, down_as_value}
use Rattle.rules_base.specs.Pairs.{down_pair, up_part, down_part}
use Rattle.rules_base.specs.Comparisons.{up_equal, down_equal, up_order, down_order}
use Rattle.rules_base.specs.Integers.{up_integers, down_integers}

abbrev pub up_one : UnaryRule → Domain → Domain
up_one one.Negation (domain.Truths t) = domain.Truths (connectives.up_negation t)
up_one one.Defined (domain.Values b undefined) = domain.Truths (up_defined b undefined)
up_one one.AsValue (domain.Truths t) = up_as_value t
up_one (one.Part s) (domain.Values b undefined) = up_part s b undefined
up_one _ _ = nothing

abbrev pub of_truths : BinaryRule → Truths → Truths → Domain
of_truths (two.Connective w) s t = domain.Truths (connectives.up w s t)
of_truths _ s t = nothing

abbrev pub of_values : BinaryRule → Bool → Body → Body → Domain
of_values two.Equal undefined a b = domain.Truths (up_equal undefined a b)
of_values two.AtMost undefined a b = domain.Truths (up_order undefined a b)
of_values two.Pair undefined a b = domain.Values (pairs a b) undefined
of_values (two.Arithmetic o) undefined a b = up_integers o undefined a b
of_values (two.Connective w) undefined a b = nothing

abbrev pub up_two : BinaryRule → Domain → Domain → Domain
up_two rule (domain.Truths s) (domain.Truths t) = of_truths rule s t
up_two rule (domain.Values a u) (domain.Values b v) = of_values rule (u || v) a b
up_two rule _ _ = nothing

-- what the part may be where the whole isn't Undefined, and else what it was
abbrev pub where_defined : Bool → Body → Body → Bool → Domain
where_defined may_be_undefined kept b undefined = if may_be_undefined then domain.Values b undefined else domain.Values kept false

abbrev pub down_one : UnaryRule → Domain → Domain → Domain
down_one one.Negation (domain.Truths w) (domain.Truths t) = domain.Truths (connectives.down_negation w t)
down_one one.Defined (domain.Truths w) (domain.Values b undefined) = down_defined w b undefined
down_one one.AsValue (domain.Values w u) (domain.Truths t) = domain.Truths (down_as_value w u t)
down_one (one.Part s) (domain.Values w u) (domain.Values b undefined) = where_defined u (down_part s w b) b undefined
down_one _ whole part = part

abbrev pub down_truths : BinaryRule → Side → Truths → Truths → Truths → Truths
down_truths (two.Connective c) s whole part other = connectives.down c s whole part other
down_truths _ s whole part other = part

-- to a side of a predicate of two expressions
abbrev pub down_compared : BinaryRule → Side → Truths → Body → Body → Body
down_compared two.Equal s whole part other = down_equal whole part other
down_compared two.AtMost s whole part other = down_order s whole part other
down_compared _ s whole part other = part

-- to a side of an expression of two
abbrev pub down_operand : BinaryRule → Side → Body → Body → Body → Body
down_operand two.Pair s whole part other = down_pair s whole part other
down_operand (two.Arithmetic o) s whole part other = down_integers o s whole part other
down_operand _ s whole part other = part

abbrev pub down_two : BinaryRule → Side → Domain → Domain → Domain → Domain
down_two rule s (domain.Truths w) (domain.Truths t) (domain.Truths other) = domain.Truths (down_truths rule s w t other)
down_two rule s (domain.Truths w) (domain.Values a undefined) (domain.Values b v) = where_defined w.can_be_undefined (down_compared rule s w a b) a undefined
down_two rule s (domain.Values w u) (domain.Values a undefined) (domain.Values b v) = where_defined u (down_operand rule s w a b) a undefined
down_two rule s whole part other = part
