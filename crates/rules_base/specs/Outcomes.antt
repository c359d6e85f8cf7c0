-- What comes of a formula by what comes of its parts: the meaning of the operators that have rules here.
use Rattle.std.specs.Prelude.{Bool, true, Option, Some, None, option_and_then}
use Rattle.eb_syntax.specs.declared.ast.Operator.TheVariants as op
use Rattle.eb_value.specs.declared.value.Form.TheOpen as val
use Rattle.eb_value.specs.Values.{Layer, layer}
use Rattle.eb_value.specs.Typing.{in_range}
use Rattle.eb_operations.specs.Truths.{tested, negation}
use Rattle.eb_operations.specs.Operations.{with_two, with_ints, value_by, bool_of, part_of}
use Rattle.eb_operations.specs.Tests.{test_by}
use Rattle.eb_term.specs.declared.operators.Side.{Side}
use Rattle.eb_term.specs.declared.operators.Side.TheVariants as side
use Rattle.occ_domains.specs.Domains.{Outcome, truth, slot}
use Rattle.rules_integers.specs.Arithmetic as integers
use Rattle.rules_base.specs.declared.rule.UnaryRule.{UnaryRule}
use Rattle.rules_base.specs.declared.rule.UnaryRule.TheVariants as one
use Rattle.rules_base.specs.declared.rule.BinaryRule.{BinaryRule}
use Rattle.rules_base.specs.declared.rule.BinaryRule.TheVariants as two
use Rattle.rules_base.specs.Connectives.{truth_by}
use Rattle.rules_base.specs.Definedness.{defined}

-- of a formula with one part, where that is of the right kind
abbrev pub of_one : UnaryRule → Outcome → Option Outcome
of_one one.Negation (truth p) = Some (truth (negation p))
of_one one.Defined (slot e) = Some (truth (defined e))
of_one one.AsValue (truth p) = Some (slot (bool_of p))
of_one (one.Part s) (slot e) = Some (slot (option_and_then (part_of s) e))
of_one _ _ = None

-- of a formula with two parts
abbrev pub of_two : BinaryRule → Outcome → Outcome → Option Outcome
of_two (two.Connective w) (truth p) (truth q) = Some (truth (truth_by w p q))
of_two two.Equal (slot e) (slot f) = Some (truth (tested (with_two (test_by op.Equal) e f)))
of_two two.AtMost (slot e) (slot f) = Some (truth (tested (with_two (test_by op.AtMost) e f)))
of_two two.Pair (slot e) (slot f) = Some (slot (with_two (value_by op.MapsTo) e f))
of_two (two.Arithmetic o) (slot e) (slot f) = Some (slot (with_two (with_ints (integers.value_by o)) e f))
of_two _ _ _ = None

-- where one of the parts, the other and the side of the first are given
abbrev pub of_sides : BinaryRule → Side → Outcome → Outcome → Option Outcome
of_sides rule side.First x y = of_two rule x y
of_sides rule side.Second x y = of_two rule y x

abbrev pub is_ranged_layer : Layer → Bool
is_ranged_layer (val.Int n) = in_range n
is_ranged_layer _ = true

-- where it is an integer, it is one of the range
abbrev pub is_ranged : Outcome → Bool
is_ranged (slot (Some v)) = is_ranged_layer (layer v)
is_ranged _ = true
