-- What the rules say comes of a formula is what its operator means.
use Rattle.std.proofs.Common.{◌≡◌, ◌∙◌, Some, refl, ap, subst}
use Rattle.std.specs.Prelude.{option_and_then}
use Rattle.eb_syntax.specs.declared.ast.Prefix.TheVariants as prefix
use Rattle.eb_syntax.specs.declared.ast.Call.TheVariants as call
use Rattle.eb_syntax.specs.declared.ast.Operator.{Operator}
use Rattle.eb_syntax.specs.declared.ast.Operator.TheVariants as op
use Rattle.eb_operations.specs.Truths.{tested, negation, truth_of}
use Rattle.eb_operations.specs.Operations.{is_value, bool_of, part_of, with_two, with_ints, value_by}
use Rattle.eb_operations.specs.Tests.{test_by}
use Rattle.eb_term.specs.declared.operators.Unary.{Unary}
use Rattle.eb_term.specs.declared.operators.Unary.TheVariants as unary
use Rattle.eb_term.specs.declared.operators.Binary.{Binary}
use Rattle.eb_term.specs.declared.operators.Binary.TheVariants as binary
use Rattle.eb_term.specs.declared.operators.Side.{Side}
use Rattle.eb_meaning.specs.Meaning.{Env, Meaning, by_unary, by_binary}
use Rattle.occ_domains.specs.Domains.{Outcome, truth, slot}
use Rattle.rules_integers.specs.declared.arithmetic.Arithmetic.{Arithmetic}
use Rattle.rules_integers.specs.declared.arithmetic.Arithmetic.TheVariants as by
use Rattle.rules_integers.specs.Arithmetic as integers
use Rattle.rules_base.specs.declared.connective.Connective.{Connective}
use Rattle.rules_base.specs.declared.connective.Connective.TheVariants as connective
use Rattle.rules_base.specs.declared.rule.UnaryRule.{UnaryRule}
use Rattle.rules_base.specs.declared.rule.UnaryRule.TheVariants as one
use Rattle.rules_base.specs.declared.rule.BinaryRule.{BinaryRule}
use Rattle.rules_base.specs.declared.rule.BinaryRule.TheVariants as two
use Rattle.rules_base.specs.Connectives.{truth_by}
use Rattle.rules_base.specs.Outcomes.{of_one, of_two}
use Rattle.rules_base.specs.Operators.{unary_rule, operator_rule, binary_rule, Comes}

some_of : {A : Type 0} (x y : A) → Some x ≡ Some y → x ≡ y
some_of x y e = cc

-- ---- one part

module _ (a : Meaning) (env : Env) where
  not_comes : (x z : Outcome) → Comes a env x → of_one one.Negation x ≡ Some z → Comes (by_unary (unary.Prefix prefix.Not) a) env z
  not_comes (truth p) z c e = subst (Comes (by_unary (unary.Prefix prefix.Not) a) env) (some_of (truth (negation p)) z e) (ap negation c)
  not_comes (slot s) z c e = cc

  defined_comes : (x z : Outcome) → Comes a env x → of_one one.Defined x ≡ Some z → Comes (by_unary unary.Defined a) env z
  defined_comes (slot s) z c e = subst (Comes (by_unary unary.Defined a) env) (some_of (truth (truth_of (is_value s))) z e) (ap (λ t. truth_of (is_value t)) c)
  defined_comes (truth p) z c e = cc

  bool_comes : (x z : Outcome) → Comes a env x → of_one one.AsValue x ≡ Some z → Comes (by_unary (unary.Call call.BoolOf) a) env z
  bool_comes (truth p) z c e = subst (Comes (by_unary (unary.Call call.BoolOf) a) env) (some_of (slot (bool_of p)) z e) (ap bool_of c)
  bool_comes (slot s) z c e = cc

  part_comes : (s : Side) (x z : Outcome) → Comes a env x → of_one (one.Part s) x ≡ Some z → Comes (by_unary (unary.Part s) a) env z
  part_comes s (slot t) z c e = subst (Comes (by_unary (unary.Part s) a) env) (some_of (slot (option_and_then (part_of s) t)) z e) (ap (option_and_then (part_of s)) c)
  part_comes s (truth p) z c e = cc

  by_rule : (r rule : UnaryRule) (x z : Outcome) → Some r ≡ Some rule → of_one rule x ≡ Some z → of_one r x ≡ Some z
  by_rule r rule x z e f = ap (λ q. of_one q x) (some_of r rule e) ∙ f

  pub unary_comes : (o : Unary) (rule : UnaryRule) (x z : Outcome) → unary_rule o ≡ Some rule → Comes a env x → of_one rule x ≡ Some z → Comes (by_unary o a) env z
  unary_comes (unary.Prefix prefix.Not) rule x z r c e = not_comes x z c (by_rule one.Negation rule x z r e)
  unary_comes (unary.Prefix prefix.Minus) rule x z r c e = cc
  unary_comes (unary.Call call.BoolOf) rule x z r c e = bool_comes x z c (by_rule one.AsValue rule x z r e)
  unary_comes (unary.Call _) rule x z r c e = cc
  unary_comes unary.Inverse rule x z r c e = cc
  unary_comes unary.Defined rule x z r c e = defined_comes x z c (by_rule one.Defined rule x z r e)
  unary_comes unary.Functional rule x z r c e = cc
  unary_comes (unary.Part s) rule x z r c e = part_comes s x z c (by_rule (one.Part s) rule x z r e)

-- ---- two parts

module _ (a b : Meaning) (env : Env) where
  connective_comes : (w : Connective) (m : Meaning) → m.truth env ≡ truth_by w (a.truth env) (b.truth env) → (x y z : Outcome) → Comes a env x → Comes b env y
      → of_two (two.Connective w) x y ≡ Some z → Comes m env z
  connective_comes w m h (truth p) (truth q) z c d e =
      subst (Comes m env) (some_of (truth (truth_by w p q)) z e) (h ∙ ap (λ r. truth_by w r (b.truth env)) c ∙ ap (truth_by w p) d)
  connective_comes w m h (truth p) (slot s) z c d e = cc
  connective_comes w m h (slot s) y z c d e = cc

  equal_comes : (m : Meaning) → m.truth env ≡ tested (with_two (test_by op.Equal) (a.value env) (b.value env)) → (x y z : Outcome) → Comes a env x → Comes b env y
      → of_two two.Equal x y ≡ Some z → Comes m env z
  equal_comes m h (slot s) (slot t) z c d e =
      subst (Comes m env) (some_of (truth (tested (with_two (test_by op.Equal) s t))) z e)
      (h ∙ ap (λ r. tested (with_two (test_by op.Equal) r (b.value env))) c ∙ ap (λ r. tested (with_two (test_by op.Equal) s r)) d)
  equal_comes m h (slot s) (truth q) z c d e = cc
  equal_comes m h (truth p) y z c d e = cc

  order_comes : (m : Meaning) → m.truth env ≡ tested (with_two (test_by op.AtMost) (a.value env) (b.value env)) → (x y z : Outcome) → Comes a env x → Comes b env y
      → of_two two.AtMost x y ≡ Some z → Comes m env z
  order_comes m h (slot s) (slot t) z c d e =
      subst (Comes m env) (some_of (truth (tested (with_two (test_by op.AtMost) s t))) z e)
      (h ∙ ap (λ r. tested (with_two (test_by op.AtMost) r (b.value env))) c ∙ ap (λ r. tested (with_two (test_by op.AtMost) s r)) d)
  order_comes m h (slot s) (truth q) z c d e = cc
  order_comes m h (truth p) y z c d e = cc

  pair_comes : (m : Meaning) → m.value env ≡ with_two (value_by op.MapsTo) (a.value env) (b.value env) → (x y z : Outcome) → Comes a env x → Comes b env y
      → of_two two.Pair x y ≡ Some z → Comes m env z
  pair_comes m h (slot s) (slot t) z c d e =
      subst (Comes m env) (some_of (slot (with_two (value_by op.MapsTo) s t)) z e)
      (h ∙ ap (λ r. with_two (value_by op.MapsTo) r (b.value env)) c ∙ ap (λ r. with_two (value_by op.MapsTo) s r) d)
  pair_comes m h (slot s) (truth q) z c d e = cc
  pair_comes m h (truth p) y z c d e = cc

  arithmetic_comes : (o : Arithmetic) (m : Meaning) → m.value env ≡ with_two (with_ints (integers.value_by o)) (a.value env) (b.value env) → (x y z : Outcome) → Comes a env x → Comes b env y
      → of_two (two.Arithmetic o) x y ≡ Some z → Comes m env z
  arithmetic_comes o m h (slot s) (slot t) z c d e =
      subst (Comes m env) (some_of (slot (with_two (with_ints (integers.value_by o)) s t)) z e)
      (h ∙ ap (λ r. with_two (with_ints (integers.value_by o)) r (b.value env)) c ∙ ap (λ r. with_two (with_ints (integers.value_by o)) s r) d)
  arithmetic_comes o m h (slot s) (truth q) z c d e = cc
  arithmetic_comes o m h (truth p) y z c d e = cc

  by_two : (r rule : BinaryRule) (x y z : Outcome) → Some r ≡ Some rule → of_two rule x y ≡ Some z → of_two r x y ≡ Some z
  by_two r rule x y z e f = ap (λ q. of_two q x y) (some_of r rule e) ∙ f

  operator_comes : (o : Operator) (rule : BinaryRule) (x y z : Outcome) → operator_rule o ≡ Some rule → Comes a env x → Comes b env y → of_two rule x y ≡ Some z
      → Comes (by_binary (binary.Operator o) a b) env z
  operator_comes op.And rule x y z r c d e = connective_comes connective.And (by_binary (binary.Operator op.And) a b) refl x y z c d (by_two (two.Connective connective.And) rule x y z r e)
  operator_comes op.Or rule x y z r c d e = connective_comes connective.Or (by_binary (binary.Operator op.Or) a b) refl x y z c d (by_two (two.Connective connective.Or) rule x y z r e)
  operator_comes op.Implies rule x y z r c d e = connective_comes connective.Implies (by_binary (binary.Operator op.Implies) a b) refl x y z c d (by_two (two.Connective connective.Implies) rule x y z r e)
  operator_comes op.Equivalent rule x y z r c d e = connective_comes connective.Equivalent (by_binary (binary.Operator op.Equivalent) a b) refl x y z c d (by_two (two.Connective connective.Equivalent) rule x y z r e)
  operator_comes op.Equal rule x y z r c d e = equal_comes (by_binary (binary.Operator op.Equal) a b) refl x y z c d (by_two two.Equal rule x y z r e)
  operator_comes op.AtMost rule x y z r c d e = order_comes (by_binary (binary.Operator op.AtMost) a b) refl x y z c d (by_two two.AtMost rule x y z r e)
  operator_comes op.MapsTo rule x y z r c d e = pair_comes (by_binary (binary.Operator op.MapsTo) a b) refl x y z c d (by_two two.Pair rule x y z r e)
  operator_comes op.Plus rule x y z r c d e = arithmetic_comes by.Sum (by_binary (binary.Operator op.Plus) a b) refl x y z c d (by_two (two.Arithmetic by.Sum) rule x y z r e)
  operator_comes op.Minus rule x y z r c d e = arithmetic_comes by.Difference (by_binary (binary.Operator op.Minus) a b) refl x y z c d (by_two (two.Arithmetic by.Difference) rule x y z r e)
  operator_comes op.Times rule x y z r c d e = arithmetic_comes by.Product (by_binary (binary.Operator op.Times) a b) refl x y z c d (by_two (two.Arithmetic by.Product) rule x y z r e)
  operator_comes op.Divide rule x y z r c d e = arithmetic_comes by.Quotient (by_binary (binary.Operator op.Divide) a b) refl x y z c d (by_two (two.Arithmetic by.Quotient) rule x y z r e)
  operator_comes op.Modulo rule x y z r c d e = arithmetic_comes by.Remainder (by_binary (binary.Operator op.Modulo) a b) refl x y z c d (by_two (two.Arithmetic by.Remainder) rule x y z r e)
  operator_comes op.Power rule x y z r c d e = arithmetic_comes by.Power (by_binary (binary.Operator op.Power) a b) refl x y z c d (by_two (two.Arithmetic by.Power) rule x y z r e)
  operator_comes _ rule x y z r c d e = cc

  pub binary_comes : (o : Binary) (rule : BinaryRule) (x y z : Outcome) → binary_rule o ≡ Some rule → Comes a env x → Comes b env y → of_two rule x y ≡ Some z → Comes (by_binary o a b) env z
  binary_comes (binary.Operator o) rule x y z r c d e = operator_comes o rule x y z r c d e
  binary_comes binary.Both rule x y z r c d e = connective_comes connective.Both (by_binary binary.Both a b) refl x y z c d (by_two (two.Connective connective.Both) rule x y z r e)
  binary_comes binary.If rule x y z r c d e = cc
