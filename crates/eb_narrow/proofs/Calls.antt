-- Operators on one part, and the others that stay, in narrow form.
use Rattle.std.proofs.Common.{◌≡◌, ◌∙◌, ℕ, true, List, length, Option, Some, None, option_map, option_and_then, pos, refl, sym, ap, ap₂, subst}
use Rattle.eb_syntax.specs.declared.ast.Operator.TheVariants as op
use Rattle.eb_syntax.specs.declared.ast.Prefix.{Prefix}
use Rattle.eb_syntax.specs.declared.ast.Prefix.TheVariants as prefix
use Rattle.eb_syntax.specs.declared.ast.Call.{Call}
use Rattle.eb_syntax.specs.declared.ast.Call.TheVariants as call
use Rattle.type_table.specs.Rows.{Sort, predicate, Choice, sort, prefix_row, call_row}
use Rattle.eb_value.specs.declared.scope.Scope.{Scope}
use Rattle.eb_value.specs.declared.types.EbType.{EbType}
use Rattle.eb_value.specs.declared.value.Value.{Value}
use Rattle.eb_value.specs.Types.{integer, boolean, power}
use Rattle.eb_value.specs.Values.{int, set}
use Rattle.eb_value.specs.Comprehensions as sets
use Rattle.eb_value.specs.Comprehensions.{members}
use Rattle.eb_term.specs.declared.operators.Unary.{Unary}
use Rattle.eb_term.specs.declared.operators.Unary.TheVariants as unary
use Rattle.eb_term.specs.declared.operators.Binary.TheVariants as binary
use Rattle.eb_term.specs.declared.operators.Side.{Side}
use Rattle.eb_term.specs.declared.term.Term.{Term}
use Rattle.eb_term.specs.Terms as term
use Rattle.eb_operations.specs.declared.truth3.Truth3.{Truth3}
use Rattle.eb_operations.specs.declared.truth3.Truth3.TheVariants.{True}
use Rattle.eb_meaning.specs.Truths as truths
use Rattle.eb_meaning.specs.Truths.{truth_of, tested}
use Rattle.eb_meaning.specs.Meaning.{Slot, Env, Meaning, meaning, value_of, truth_in, with_two, with_ints, with_set, with_sets, set_in, set_by, int_by, test_by, value_by, where_given, is_value, has_value, is_value_of}
use Rattle.eb_meaning.specs.Meaning as means
use Rattle.narrow_terms.specs.Building as built
use Rattle.narrow_terms.specs.Building.{operation}
use Rattle.eb_narrow.specs.Narrow as narrow
use Rattle.eb_narrow.specs.Narrow.{Narrowed}
use Rattle.eb_narrow.proofs.Hypotheses.{Laws}
use Rattle.eb_narrow.proofs.Sights.{Sight, seen, of_value}
use Rattle.eb_narrow.proofs.Shifts.{env_of, unary_is, binary_is}
use Rattle.eb_narrow.proofs.Truths.{if_given}
use Rattle.eb_narrow.proofs.Pieces.{truth_not, truth_both, truth_is_defined, value_literal}
use Rattle.eb_narrow.proofs.Represents.{Fits, Represents, plain_represents}
use Rattle.eb_narrow.proofs.Forms.{power_represents, nonempty_power_represents}
use Rattle.eb_narrow.proofs.Operators.{KeepsAs, IsOf}
use Rattle.eb_narrow.proofs.Binders.{generalized_union_keeps}

finite_by : (a : Slot) → if_given (is_value a) True ≡ tested (option_map (λ v. true) a)
finite_by None = refl
finite_by (Some v) = refl

module _ (laws : Laws) (scope : Scope) (refs : List Slot) (bound : List Value) where
  abbrev env : Env
  env = env_of refs bound

  abbrev Keeps : Sort → Narrowed → Meaning → Type 0
  Keeps = KeepsAs scope refs bound

  abbrev Right : EbType → Narrowed → Sight → Type 0
  Right = Represents scope refs bound

  negated : (p : Term) (t : Truth3) → truth_in scope env p ≡ t → truth_in scope env (built.negation p) ≡ truths.negation t
  negated p t h = truth_not scope env p ∙ ap truths.negation h

  -- ---- operators on one part

  plain_unary : (o : Unary) (ty : Option EbType) (u : EbType) (a : ℕ → Term) (A : Meaning) (f : Slot → Slot) → value_of scope env (a (length bound)) ≡ A.value env
      → ((x : Meaning) → seen env (means.by_unary o x) ≡ of_value (f (x.value env))) → Fits scope u (f (A.value env))
      → Right u (narrow.expression ty (λ d. term.unary o (a d))) (seen env (means.by_unary o A))
  plain_unary o ty u a A f p is h =
      subst (λ s. Right u (narrow.expression ty (λ d. term.unary o (a d))) s) (sym (is A))
      (plain_represents scope refs bound ty (λ d. term.unary o (a d)) (f (A.value env)) u h
      (ap (seen env) (unary_is scope o (a (length bound))) ∙ (is (meaning scope (a (length bound))) ∙ ap (λ x. of_value (f x)) p)))

  pub prefix_keeps : (o : Prefix) (v : Choice) (ty : Option EbType) (a : Narrowed) (A : Meaning) → Keeps (sort v (prefix_row o).part) a A
      → IsOf scope (sort v (prefix_row o).whole) ((means.by_prefix o A).value env) → Keeps (sort v (prefix_row o).whole) (narrow.by_prefix o ty a) (means.by_prefix o A)
  prefix_keeps prefix.Not v ty a A l f = negated (a.term (length bound)) (A.truth env) l
  prefix_keeps prefix.Minus v ty a A l f =
      plain_represents scope refs bound ty (λ d. operation op.Minus (term.integer (pos 0)) (a.term d)) (option_and_then (λ v. with_ints (int_by op.Minus) (int (pos 0)) v) (A.value env)) integer f
      (ap (seen env) (binary_is scope (binary.Operator op.Minus) (term.integer (pos 0)) (a.term (length bound)))
      ∙ ap of_value (ap₂ (λ x y. with_two (value_by op.Minus) x y) (value_literal scope env (int (pos 0)) integer) l.value))

  pub call_keeps : (o : Call) (v : Choice) (ty : Option EbType) (a : Narrowed) (A : Meaning) → Keeps (sort v (call_row o).part) a A
      → IsOf scope (sort v (call_row o).whole) ((means.by_call o A).value env)
      → Keeps (sort v (call_row o).whole) (narrow.by_call o ty a) (means.by_call o A)
  call_keeps call.PowerSet v ty a A l f = power_represents laws scope refs bound v.for_a ty a (seen env A) l
  call_keeps call.NonemptyPowerSet v ty a A l f = nonempty_power_represents laws scope refs bound v.for_a ty a (seen env A) l
  call_keeps call.Finite v ty a A l f = truth_is_defined laws scope env (a.term (length bound)) ∙ (ap (λ o. if_given (is_value o) True) l.value ∙ finite_by (A.value env))
  call_keeps call.BoolOf v ty a A l f =
      plain_represents scope refs bound ty (λ d. term.unary (unary.Call call.BoolOf) (a.term d)) (means.bool_of (A.truth env)) boolean f
      (ap (seen env) (unary_is scope (unary.Call call.BoolOf) (a.term (length bound))) ∙ ap (λ p. of_value (means.bool_of p)) l)
  call_keeps call.GeneralizedUnion v ty a A l f = generalized_union_keeps laws scope refs bound v.for_a ty a A l f
  call_keeps call.Cardinality v ty a A l f = plain_unary (unary.Call call.Cardinality) ty integer a.term A (option_and_then (with_set (means.call_by call.Cardinality))) l.value (λ x. refl) f
  call_keeps call.Minimum v ty a A l f = plain_unary (unary.Call call.Minimum) ty integer a.term A (option_and_then (with_set (means.call_by call.Minimum))) l.value (λ x. refl) f
  call_keeps call.Maximum v ty a A l f = plain_unary (unary.Call call.Maximum) ty integer a.term A (option_and_then (with_set (means.call_by call.Maximum))) l.value (λ x. refl) f
  call_keeps call.Domain v ty a A l f = plain_unary (unary.Call call.Domain) ty (power v.for_a) a.term A (option_and_then (with_set (means.call_by call.Domain))) l.value (λ x. refl) f
  call_keeps call.Range v ty a A l f = plain_unary (unary.Call call.Range) ty (power v.for_b) a.term A (option_and_then (with_set (means.call_by call.Range))) l.value (λ x. refl) f
  call_keeps call.GeneralizedIntersection v ty a A l f = plain_unary (unary.Call call.GeneralizedIntersection) ty (power v.for_a) a.term A (option_and_then (with_set (means.call_by call.GeneralizedIntersection))) l.value (λ x. refl) f

  pub inverse_keeps : (u w : EbType) (ty : Option EbType) (a : Narrowed) (A : Meaning) → Right u a (seen env A) → Fits scope w ((means.by_unary unary.Inverse A).value env)
      → Right w (narrow.by_unary unary.Inverse ty a) (seen env (means.by_unary unary.Inverse A))
  inverse_keeps u w ty a A l f = plain_unary unary.Inverse ty w a.term A (option_and_then (with_set (λ r. Some (set (sets.inverse r))))) l.value (λ x. refl) f

  pub part_keeps : (s : Side) (u w : EbType) (ty : Option EbType) (a : Narrowed) (A : Meaning) → Right u a (seen env A) → Fits scope w ((means.by_unary (unary.Part s) A).value env)
      → Right w (narrow.by_unary (unary.Part s) ty a) (seen env (means.by_unary (unary.Part s) A))
  part_keeps s u w ty a A l f = plain_unary (unary.Part s) ty w a.term A (option_and_then (means.part_of s)) l.value (λ x. refl) f

  pub defined_keeps : (u : EbType) (ty : Option EbType) (a : Narrowed) (A : Meaning) → Right u a (seen env A) → Keeps predicate (narrow.by_unary unary.Defined ty a) (means.by_unary unary.Defined A)
  defined_keeps u ty a A l = ap (λ m. m.truth env) (unary_is scope unary.Defined (a.term (length bound))) ∙ ap (λ o. truth_of (is_value o)) l.value

  pub functional_keeps : (u : EbType) (ty : Option EbType) (a : Narrowed) (A : Meaning) → Right u a (seen env A) → Keeps predicate (narrow.by_unary unary.Functional ty a) (means.by_unary unary.Functional A)
  functional_keeps u ty a A l = ap (λ m. m.truth env) (unary_is scope unary.Functional (a.term (length bound))) ∙ ap (λ o. tested (option_and_then (with_set (λ r. Some (sets.is_functional r))) o)) l.value

  -- ---- the conjunction of two that are defined, and the set under a condition

  pub both_keeps : (ty : Option EbType) (a b : Narrowed) (A B : Meaning) → Keeps predicate a A → Keeps predicate b B → Keeps predicate (narrow.by_binary binary.Both ty a b) (means.by_binary binary.Both A B)
  both_keeps ty a b A B l r = truth_both scope env (a.term (length bound)) (b.term (length bound)) ∙ ap₂ truths.both l r

  pub if_keeps : (u : EbType) (ty : Option EbType) (a b : Narrowed) (A B : Meaning) → Keeps predicate a A → Right u b (seen env B) → Fits scope u ((means.by_binary binary.If A B).value env)
      → Right u (narrow.by_binary binary.If ty a b) (seen env (means.by_binary binary.If A B))
  if_keeps u ty a b A B l r f =
      plain_represents scope refs bound ty (λ d. term.binary binary.If (a.term d) (b.term d)) (means.chosen (A.truth env) (B.value env)) u f
      (ap (seen env) (binary_is scope binary.If (a.term (length bound)) (b.term (length bound))) ∙ ap of_value (ap₂ means.chosen l r.value))
