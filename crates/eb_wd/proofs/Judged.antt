-- One operator at a time: what is written for it says where it is defined, if what is written for its parts does.
use Rattle.std.proofs.Common.{◌≡◌, ◌∙◌, Bool, true, false, not, if◌then◌else◌, ◌&&◌, ◌||◌, List, [], ◌∷◌, ◌++◌, map, Some, None, option_map, int_le, int_lt, refl, sym, ap, ap₂}
use Rattle.std.specs.List.{list_all}
use Rattle.std.proofs.lemmas.Bool.{false≢true}
use Rattle.eb_syntax.specs.declared.ast.Operator.{Operator}
use Rattle.eb_syntax.specs.declared.ast.Operator.TheVariants as op
use Rattle.eb_syntax.specs.declared.ast.Prefix.{Prefix}
use Rattle.eb_syntax.specs.declared.ast.Prefix.TheVariants as prefix
use Rattle.eb_syntax.specs.declared.ast.Call.{Call}
use Rattle.eb_syntax.specs.declared.ast.Call.TheVariants as call
use Rattle.type_table.specs.Rows.{Sort, predicate, expression, Choice, sort, relation, prefix_row, call_row, operator_row}
use Rattle.eb_value.specs.declared.scope.Scope.{Scope}
use Rattle.eb_value.specs.declared.types.EbType.{EbType}
use Rattle.eb_value.specs.declared.value.Value.{Value}
use Rattle.eb_value.specs.Types.{product, power}
use Rattle.eb_value.specs.Values.{set}
use Rattle.eb_value.specs.Scopes.{vals}
use Rattle.eb_value.specs.Typing.{has_type, have_type}
use Rattle.eb_value.specs.Comprehensions as sets
use Rattle.eb_value.specs.Comprehensions.{members, same}
use Rattle.eb_term.specs.declared.operators.Unary.{Unary}
use Rattle.eb_term.specs.declared.operators.Unary.TheVariants as unary
use Rattle.eb_term.specs.declared.operators.Binary.TheVariants as binary
use Rattle.eb_term.specs.declared.operators.Binder.TheVariants as binder
use Rattle.eb_term.specs.declared.term.Term.{Term}
use Rattle.eb_term.specs.Terms as term
use Rattle.eb_operations.specs.declared.truth3.Truth3.{Truth3}
use Rattle.eb_operations.specs.declared.truth3.Truth3.TheVariants.{Undefined}
use Rattle.eb_meaning.specs.Truths as truths
use Rattle.eb_meaning.specs.Truths.{truth_of, tested, for_all, exists}
use Rattle.eb_meaning.specs.Meaning.{Slot, Env, Meaning, meaning, value_of, truth_in, inside, is_value, over_range, by_prefix, by_call, by_operator, by_unary, test_by, member, subset, proper_subset, is_within, is_value_of}
use Rattle.narrow_terms.specs.Building.{operation, conjunction}
use Rattle.eb_wd.specs.WellDefined.{Conditions}
use Rattle.eb_wd.specs.WellDefined as wd
use Rattle.eb_wd.proofs.MeaningAt.{has_value_in, meaning-unary, meaning-binary, truth-truth, truth-defined, truth-conjunction, truth-implication, truth-disjunction, truth-for_all_over, truth-for_all}
use Rattle.eb_wd.proofs.Truths.{saying, and_true, conjunction-truth_of, saying-truth_of, saying-negation, saying-conjunction, saying-implication, saying-disjunction, saying-strict, saying-where_given, saying-for_all, saying-exists}
use Rattle.eb_wd.proofs.TypedSlots.{Fits, IsOf, saying-two, saying-ints, saying-set, value-sets, members_typed}

-- each of the terms has a value
abbrev pub have_values_in : Scope → Env → List Term → Bool
have_values_in scope env ts = list_all (has_value_in scope env) ts

-- what is written for an expression: its value parts are defined exactly where it is given, and a set that is no form is given
-- exactly where it has a value
pub record IsGivenBy (scope : Scope) (env : Env) (m : Meaning) (k : Conditions) : Type 0 where
  pub parts : m.is_given env ≡ have_values_in scope env k.values
  pub plain : k.is_form ≡ false → m.is_given env ≡ is_value (m.value env)

-- what is written for a predicate says where it is defined
abbrev pub Judged : Scope → Env → Sort → Meaning → Conditions → Type 0
Judged scope env predicate m k = truth_in scope env k.wd ≡ saying (m.truth env)
Judged scope env (expression t) m k = IsGivenBy scope env m k

-- ---- expressions and forms

all_append : (p : Term → Bool) (xs ys : List Term) → list_all p (xs ++ ys) ≡ (list_all p xs && list_all p ys)
all_append p [] ys = refl
all_append p (x ∷ xs) ys = ap (λ b. p x && b) (all_append p xs ys) ∙ and_on (p x) (list_all p xs) (list_all p ys)
  where
    and_on : (a b c : Bool) → (a && (b && c)) ≡ ((a && b) && c)
    and_on true b c = refl
    and_on false b c = refl

module _ (scope : Scope) (env : Env) where
  -- an expression that is given where it has a value
  pub expression_judged : (m : Meaning) (t : Term) → meaning scope t ≡ m → m.is_given env ≡ is_value (m.value env) → IsGivenBy scope env m (wd.expression t)
  expression_judged m t e h = record {
    parts = h ∙ sym (ap (λ n. is_value (n.value env)) e) ∙ sym (and_true (has_value_in scope env t));
    plain = λ p. h;
  }

  -- a form with two parts
  two_parts : (m n r : Meaning) (k l : Conditions) (t : Term) → r.is_given env ≡ (m.is_given env && n.is_given env) → IsGivenBy scope env m k → IsGivenBy scope env n l → IsGivenBy scope env r (wd.form t (k.values ++ l.values))
  two_parts m n r k l t e p q = record {
    parts = e ∙ ap₂ (λ a b. a && b) p.parts q.parts ∙ sym (all_append (has_value_in scope env) k.values l.values);
    plain = λ f. absurd (false≢true (sym f));
  }

  -- the same parts, and a form
  pub same_parts : (m n : Meaning) (k : Conditions) (t : Term) → n.is_given env ≡ m.is_given env → IsGivenBy scope env m k → IsGivenBy scope env n (wd.form t k.values)
  same_parts m n k t e p = record { parts = e ∙ p.parts; plain = λ f. absurd (false≢true (sym f)) }

  -- ---- predicates

  and_on_says : (p : Term) (b : Bool) (ts : List Term) → truth_in scope env p ≡ truth_of b → truth_in scope env (wd.and_on p (map wd.is_defined ts)) ≡ truth_of (b && have_values_in scope env ts)
  and_on_says p b [] h = h ∙ ap truth_of (sym (and_true b))
  and_on_says p b (t ∷ ts) h =
      and_on_says (conjunction p (wd.is_defined t)) (b && has_value_in scope env t) ts
      (truth-conjunction scope env p (wd.is_defined t) ∙ ap₂ truths.conjunction h (truth-defined scope env t) ∙ conjunction-truth_of b (has_value_in scope env t))
      ∙ ap truth_of (and_on b (has_value_in scope env t) (have_values_in scope env ts))
    where
      and_on : (a b c : Bool) → ((a && b) && c) ≡ (a && (b && c))
      and_on true b c = refl
      and_on false b c = refl

  -- that each of the terms is defined
  pub all_defined_says : (ts : List Term) → truth_in scope env (wd.all_defined ts) ≡ truth_of (have_values_in scope env ts)
  all_defined_says [] = truth-truth scope env
  all_defined_says (t ∷ ts) = and_on_says (wd.is_defined t) (has_value_in scope env t) ts (truth-defined scope env t)

  -- P & Q and the like
  pub after_first : (m n : Meaning) (k l : Conditions) (f : Truth3 → Truth3 → Truth3) (join : Term → Term → Term) → meaning scope k.term ≡ m
      → ((p q : Term) → truth_in scope env (join p q) ≡ f (truth_in scope env p) (truth_in scope env q))
      → truth_in scope env k.wd ≡ saying (m.truth env) → truth_in scope env l.wd ≡ saying (n.truth env)
      → truth_in scope env (conjunction k.wd (join k.term l.wd)) ≡ truths.conjunction (saying (m.truth env)) (f (m.truth env) (saying (n.truth env)))
  after_first m n k l f join e j p q =
      truth-conjunction scope env k.wd (join k.term l.wd) ∙ ap₂ truths.conjunction p (j k.term l.wd ∙ ap₂ f (ap (λ z. z.truth env) e) q)

  pub of_both : (m n : Meaning) (k l : Conditions) → truth_in scope env k.wd ≡ saying (m.truth env) → truth_in scope env l.wd ≡ saying (n.truth env)
      → truth_in scope env (conjunction k.wd l.wd) ≡ truths.conjunction (saying (m.truth env)) (saying (n.truth env))
  of_both m n k l p q = truth-conjunction scope env k.wd l.wd ∙ ap₂ truths.conjunction p q

  -- that the term has a value, by its meaning
  has_value-is : (m : Meaning) (t : Term) → meaning scope t ≡ m → has_value_in scope env t ≡ is_value (m.value env)
  has_value-is m t e = ap (λ n. is_value (n.value env)) e

  -- a test of two values
  pub compared_says : (m n : Meaning) (k l : Conditions) (p : Truth3) → meaning scope k.term ≡ m → meaning scope l.term ≡ n
      → truth_of (is_value (m.value env) && is_value (n.value env)) ≡ saying p → truth_in scope env (wd.all_defined (k.term ∷ l.term ∷ [])) ≡ saying p
  compared_says m n k l p e g h =
      all_defined_says (k.term ∷ l.term ∷ [])
      ∙ ap truth_of (ap₂ (λ a b. a && b) (has_value-is m k.term e) (and_true (has_value_in scope env l.term) ∙ has_value-is n l.term g)) ∙ h

  -- a test of a value, to the left of what is given
  pub membership_says : (m n : Meaning) (k l : Conditions) (p : Truth3) → meaning scope k.term ≡ m → IsGivenBy scope env n l
      → truth_of (is_value (m.value env) && n.is_given env) ≡ saying p → truth_in scope env (wd.all_defined (k.term ∷ l.values)) ≡ saying p
  membership_says m n k l p e g h = all_defined_says (k.term ∷ l.values) ∙ ap truth_of (ap₂ (λ a b. a && b) (has_value-is m k.term e) (sym g.parts)) ∙ h

  -- a product is a form where a part is one
  product_at : (m n : Meaning) (k l : Conditions) → IsGivenBy scope env m k → IsGivenBy scope env n l → (f g : Bool) → k.is_form ≡ f → l.is_form ≡ g
      → meaning scope (operation op.Product k.term l.term) ≡ by_operator op.Product m n
      → (is_value (m.value env) && is_value (n.value env)) ≡ is_value ((by_operator op.Product m n).value env)
      → IsGivenBy scope env (by_operator op.Product m n) (if f || g then wd.form (operation op.Product k.term l.term) (k.values ++ l.values) else wd.expression (operation op.Product k.term l.term))
  product_at m n k l p q true g i j e v = two_parts m n (by_operator op.Product m n) k l (operation op.Product k.term l.term) refl p q
  product_at m n k l p q false true i j e v = two_parts m n (by_operator op.Product m n) k l (operation op.Product k.term l.term) refl p q
  product_at m n k l p q false false i j e v = expression_judged (by_operator op.Product m n) (operation op.Product k.term l.term) e (ap₂ (λ a b. a && b) (p.plain i) (q.plain j) ∙ v)

  -- ---- operators

  operation_is : (o : Operator) (m n : Meaning) (k l : Conditions) → meaning scope k.term ≡ m → meaning scope l.term ≡ n → meaning scope (operation o k.term l.term) ≡ by_operator o m n
  operation_is o m n k l e g = meaning-binary scope (binary.Operator o) k.term l.term ∙ ap₂ (by_operator o) e g

  -- an operation that is no form
  plain : (o : Operator) (m n : Meaning) (k l : Conditions) → meaning scope k.term ≡ m → meaning scope l.term ≡ n → (by_operator o m n).is_given env ≡ is_value ((by_operator o m n).value env)
      → IsGivenBy scope env (by_operator o m n) (wd.expression (operation o k.term l.term))
  plain o m n k l e g h = expression_judged (by_operator o m n) (operation o k.term l.term) (operation_is o m n k l e g) h

  -- a set of relations
  arrow : (o : Operator) (m n : Meaning) (k l : Conditions) → (by_operator o m n).is_given env ≡ (m.is_given env && n.is_given env) → IsGivenBy scope env m k → IsGivenBy scope env n l
      → IsGivenBy scope env (by_operator o m n) (wd.form (operation o k.term l.term) (k.values ++ l.values))
  arrow o m n k l h p q = two_parts m n (by_operator o m n) k l (operation o k.term l.term) h p q

  pub operator_judged : (o : Operator) (v : Choice) (m n : Meaning) (k l : Conditions) → meaning scope k.term ≡ m → meaning scope l.term ≡ n
      → IsOf scope (sort v (operator_row o).left) (m.value env) → IsOf scope (sort v (operator_row o).right) (n.value env)
      → Judged scope env (sort v (operator_row o).left) m k → Judged scope env (sort v (operator_row o).right) n l
      → Judged scope env (sort v (operator_row o).whole) (by_operator o m n) (wd.by_operator o k l)
  operator_judged op.And v m n k l e g x y p q = after_first m n k l truths.implication wd.implication e (truth-implication scope env) p q ∙ saying-conjunction (m.truth env) (n.truth env)
  operator_judged op.Implies v m n k l e g x y p q = after_first m n k l truths.implication wd.implication e (truth-implication scope env) p q ∙ saying-implication (m.truth env) (n.truth env)
  operator_judged op.Or v m n k l e g x y p q = after_first m n k l truths.disjunction wd.disjunction e (truth-disjunction scope env) p q ∙ saying-disjunction (m.truth env) (n.truth env)
  operator_judged op.Equivalent v m n k l e g x y p q = of_both m n k l p q ∙ saying-strict truths.same_truth (m.truth env) (n.truth env)
  operator_judged op.Equal v m n k l e g x y p q = compared_says m n k l _ e g (saying-two (test_by op.Equal) (m.value env) (n.value env) (λ a b c d. saying-truth_of (same a b)))
  operator_judged op.Unequal v m n k l e g x y p q = compared_says m n k l _ e g (saying-two (test_by op.Unequal) (m.value env) (n.value env) (λ a b c d. saying-truth_of (not (same a b))))
  operator_judged op.Less v m n k l e g x y p q = compared_says m n k l _ e g (saying-ints scope (λ a b. int_lt a b) (m.value env) (n.value env) x y)
  operator_judged op.AtMost v m n k l e g x y p q = compared_says m n k l _ e g (saying-ints scope (λ a b. int_le a b) (m.value env) (n.value env) x y)
  operator_judged op.Greater v m n k l e g x y p q = compared_says m n k l _ e g (saying-ints scope (λ a b. int_lt b a) (m.value env) (n.value env) x y)
  operator_judged op.AtLeast v m n k l e g x y p q = compared_says m n k l _ e g (saying-ints scope (λ a b. int_le b a) (m.value env) (n.value env) x y)
  operator_judged op.MemberOf v m n k l e g x y p q = membership_says m n k l (member env m n) e q (saying-where_given (n.is_given env) (n.has env) (m.value env))
  operator_judged op.NotMemberOf v m n k l e g x y p q = membership_says m n k l (member env m n) e q (saying-where_given (n.is_given env) (n.has env) (m.value env)) ∙ saying-negation (member env m n)
  operator_judged op.SubsetOf v m n k l e g x y p q = membership_says m n k l (subset env m n) e q (saying-where_given (n.is_given env) (is_within env n) (m.value env))
  operator_judged op.NotSubsetOf v m n k l e g x y p q = membership_says m n k l (subset env m n) e q (saying-where_given (n.is_given env) (is_within env n) (m.value env)) ∙ saying-negation (subset env m n)
  operator_judged op.ProperSubsetOf v m n k l e g x y p q = membership_says m n k l (proper_subset env m n) e q (saying-where_given (n.is_given env) (λ z. is_within env n z && not (is_value_of (n.value env) z)) (m.value env))
  operator_judged op.NotProperSubsetOf v m n k l e g x y p q =
      membership_says m n k l (proper_subset env m n) e q (saying-where_given (n.is_given env) (λ z. is_within env n z && not (is_value_of (n.value env) z)) (m.value env)) ∙ saying-negation (proper_subset env m n)
  operator_judged op.Product v m n k l e g x y p q = product_at m n k l p q k.is_form l.is_form refl refl (operation_is op.Product m n k l e g) (value-sets scope v.for_a v.for_b (λ xs ys. set (sets.cross xs ys)) (m.value env) (n.value env) x y)
  operator_judged op.Relation v m n k l e g x y p q = arrow op.Relation m n k l refl p q
  operator_judged op.TotalRelation v m n k l e g x y p q = arrow op.TotalRelation m n k l refl p q
  operator_judged op.SurjectiveRelation v m n k l e g x y p q = arrow op.SurjectiveRelation m n k l refl p q
  operator_judged op.TotalSurjectiveRelation v m n k l e g x y p q = arrow op.TotalSurjectiveRelation m n k l refl p q
  operator_judged op.PartialFunction v m n k l e g x y p q = arrow op.PartialFunction m n k l refl p q
  operator_judged op.TotalFunction v m n k l e g x y p q = arrow op.TotalFunction m n k l refl p q
  operator_judged op.PartialInjection v m n k l e g x y p q = arrow op.PartialInjection m n k l refl p q
  operator_judged op.TotalInjection v m n k l e g x y p q = arrow op.TotalInjection m n k l refl p q
  operator_judged op.PartialSurjection v m n k l e g x y p q = arrow op.PartialSurjection m n k l refl p q
  operator_judged op.TotalSurjection v m n k l e g x y p q = arrow op.TotalSurjection m n k l refl p q
  operator_judged op.Bijection v m n k l e g x y p q = arrow op.Bijection m n k l refl p q
  operator_judged op.MapsTo v m n k l e g x y p q = plain op.MapsTo m n k l e g refl
  operator_judged op.Union v m n k l e g x y p q = plain op.Union m n k l e g refl
  operator_judged op.Intersection v m n k l e g x y p q = plain op.Intersection m n k l e g refl
  operator_judged op.Difference v m n k l e g x y p q = plain op.Difference m n k l e g refl
  operator_judged op.ForwardComposition v m n k l e g x y p q = plain op.ForwardComposition m n k l e g refl
  operator_judged op.BackwardComposition v m n k l e g x y p q = plain op.BackwardComposition m n k l e g refl
  operator_judged op.DomainRestriction v m n k l e g x y p q = plain op.DomainRestriction m n k l e g refl
  operator_judged op.DomainSubtraction v m n k l e g x y p q = plain op.DomainSubtraction m n k l e g refl
  operator_judged op.RangeRestriction v m n k l e g x y p q = plain op.RangeRestriction m n k l e g refl
  operator_judged op.RangeSubtraction v m n k l e g x y p q = plain op.RangeSubtraction m n k l e g refl
  operator_judged op.Override v m n k l e g x y p q = plain op.Override m n k l e g refl
  operator_judged op.DirectProduct v m n k l e g x y p q = plain op.DirectProduct m n k l e g refl
  operator_judged op.ParallelProduct v m n k l e g x y p q = plain op.ParallelProduct m n k l e g refl
  operator_judged op.UpTo v m n k l e g x y p q = plain op.UpTo m n k l e g refl
  operator_judged op.Plus v m n k l e g x y p q = plain op.Plus m n k l e g refl
  operator_judged op.Minus v m n k l e g x y p q = plain op.Minus m n k l e g refl
  operator_judged op.Times v m n k l e g x y p q = plain op.Times m n k l e g refl
  operator_judged op.Divide v m n k l e g x y p q = plain op.Divide m n k l e g refl
  operator_judged op.Modulo v m n k l e g x y p q = plain op.Modulo m n k l e g refl
  operator_judged op.Power v m n k l e g x y p q = plain op.Power m n k l e g refl
  operator_judged op.Apply v m n k l e g x y p q = plain op.Apply m n k l e g refl
  operator_judged op.Image v m n k l e g x y p q = plain op.Image m n k l e g refl

  -- ---- operators with one part

  unary_is : (o : Unary) (m : Meaning) (k : Conditions) → meaning scope k.term ≡ m → meaning scope (term.unary o k.term) ≡ by_unary o m
  unary_is o m k e = meaning-unary scope o k.term ∙ ap (by_unary o) e

  pub plain_one : (o : Unary) (m : Meaning) (k : Conditions) → meaning scope k.term ≡ m → (by_unary o m).is_given env ≡ is_value ((by_unary o m).value env) → IsGivenBy scope env (by_unary o m) (wd.expression (term.unary o k.term))
  plain_one o m k e h = expression_judged (by_unary o m) (term.unary o k.term) (unary_is o m k e) h

  defined_says : (m : Meaning) (k : Conditions) (p : Truth3) → meaning scope k.term ≡ m → truth_of (is_value (m.value env)) ≡ saying p → truth_in scope env (wd.is_defined k.term) ≡ saying p
  defined_says m k p e h = truth-defined scope env k.term ∙ ap truth_of (has_value-is m k.term e) ∙ h

  pub prefix_judged : (o : Prefix) (v : Choice) (m : Meaning) (k : Conditions) → meaning scope k.term ≡ m → Judged scope env (sort v (prefix_row o).part) m k
      → Judged scope env (sort v (prefix_row o).whole) (by_prefix o m) (wd.by_unary (unary.Prefix o) k)
  prefix_judged prefix.Not v m k e p = p ∙ saying-negation (m.truth env)
  prefix_judged prefix.Minus v m k e p = plain_one (unary.Prefix prefix.Minus) m k e refl

  value_there : (a : Slot) → truth_of (is_value a) ≡ saying (tested (option_map (λ v. true) a))
  value_there None = refl
  value_there (Some v) = refl

  pub call_judged : (o : Call) (v : Choice) (m : Meaning) (k : Conditions) → meaning scope k.term ≡ m → Judged scope env (sort v (call_row o).part) m k
      → Judged scope env (sort v (call_row o).whole) (by_call o m) (wd.by_unary (unary.Call o) k)
  call_judged call.PowerSet v m k e p = same_parts m (by_call call.PowerSet m) k (term.unary (unary.Call call.PowerSet) k.term) refl p
  call_judged call.NonemptyPowerSet v m k e p = same_parts m (by_call call.NonemptyPowerSet m) k (term.unary (unary.Call call.NonemptyPowerSet) k.term) refl p
  call_judged call.Finite v m k e p = defined_says m k _ e (value_there (m.value env))
  call_judged call.Cardinality v m k e p = plain_one (unary.Call call.Cardinality) m k e refl
  call_judged call.Minimum v m k e p = plain_one (unary.Call call.Minimum) m k e refl
  call_judged call.Maximum v m k e p = plain_one (unary.Call call.Maximum) m k e refl
  call_judged call.Domain v m k e p = plain_one (unary.Call call.Domain) m k e refl
  call_judged call.Range v m k e p = plain_one (unary.Call call.Range) m k e refl
  call_judged call.GeneralizedUnion v m k e p = plain_one (unary.Call call.GeneralizedUnion) m k e refl
  call_judged call.GeneralizedIntersection v m k e p = plain_one (unary.Call call.GeneralizedIntersection) m k e refl
  call_judged call.BoolOf v m k e p = plain_one (unary.Call call.BoolOf) m k e refl

  pub functional_judged : (s t : EbType) (m : Meaning) (k : Conditions) → meaning scope k.term ≡ m → Fits scope (relation s t) (m.value env)
      → Judged scope env predicate (by_unary unary.Functional m) (wd.by_unary unary.Functional k)
  functional_judged s t m k e x = defined_says m k _ e (saying-set scope (product s t) sets.is_functional (m.value env) x)

  -- ---- quantifiers

  -- over the members of a set
  over_says : (q : List Truth3 → Truth3) (t : EbType) (s p : Term) (f : Value → Truth3) (a : Slot) → value_of scope env s ≡ a → Fits scope (power t) a
      → ((vs : List Value) → have_type scope vs t ≡ true → for_all (map (λ v. truth_in scope (inside env v) p) vs) ≡ saying (q (map f vs)))
      → truth_in scope env (conjunction (wd.is_defined s) (term.over binder.ForAll s p)) ≡ saying (over_range Undefined (λ vs. q (map f vs)) (option_map members a))
  over_says q t s p f a e x h =
      truth-conjunction scope env (wd.is_defined s) (term.over binder.ForAll s p)
      ∙ ap₂ truths.conjunction (truth-defined scope env s ∙ ap (λ o. truth_of (is_value o)) e) (truth-for_all_over scope env s p ∙ ap (λ o. over_range Undefined (λ vs. for_all (map (λ v. truth_in scope (inside env v) p) vs)) (option_map members o)) e)
      ∙ at a x
    where
      at : (a : Slot) → Fits scope (power t) a → truths.conjunction (truth_of (is_value a)) (over_range Undefined (λ vs. for_all (map (λ v. truth_in scope (inside env v) p) vs)) (option_map members a))
          ≡ saying (over_range Undefined (λ vs. q (map f vs)) (option_map members a))
      at None x = refl
      at (Some v) x = h (members v) (members_typed scope t v x)

  pub for_all_over_judged : (t : EbType) (s : Term) (n : Meaning) (l : Conditions) → Fits scope (power t) (value_of scope env s)
      → ((v : Value) → has_type scope v t ≡ true → truth_in scope (inside env v) l.wd ≡ saying (n.truth (inside env v)))
      → truth_in scope env (conjunction (wd.is_defined s) (term.over binder.ForAll s l.wd)) ≡ saying (over_range Undefined (λ vs. for_all (map (λ v. n.truth (inside env v)) vs)) (option_map members (value_of scope env s)))
  for_all_over_judged t s n l x h = over_says for_all t s l.wd (λ v. n.truth (inside env v)) (value_of scope env s) refl x
      (λ vs y. saying-for_all (λ v. has_type scope v t) (λ v. truth_in scope (inside env v) l.wd) (λ v. n.truth (inside env v)) vs y h)

  pub exists_over_judged : (t : EbType) (s : Term) (n : Meaning) (l : Conditions) → Fits scope (power t) (value_of scope env s)
      → ((v : Value) → has_type scope v t ≡ true → truth_in scope (inside env v) l.wd ≡ saying (n.truth (inside env v)))
      → truth_in scope env (conjunction (wd.is_defined s) (term.over binder.ForAll s l.wd)) ≡ saying (over_range Undefined (λ vs. exists (map (λ v. n.truth (inside env v)) vs)) (option_map members (value_of scope env s)))
  exists_over_judged t s n l x h = over_says exists t s l.wd (λ v. n.truth (inside env v)) (value_of scope env s) refl x
      (λ vs y. saying-exists (λ v. has_type scope v t) (λ v. truth_in scope (inside env v) l.wd) (λ v. n.truth (inside env v)) vs y h)

  -- over all values of a type
  pub for_all_judged : (t : EbType) (n : Meaning) (l : Conditions) → have_type scope (vals scope t) t ≡ true
      → ((v : Value) → has_type scope v t ≡ true → truth_in scope (inside env v) l.wd ≡ saying (n.truth (inside env v)))
      → truth_in scope env (term.all binder.ForAll t l.wd) ≡ saying (for_all (map (λ v. n.truth (inside env v)) (vals scope t)))
  for_all_judged t n l x h = truth-for_all scope env t l.wd ∙ saying-for_all (λ v. has_type scope v t) (λ v. truth_in scope (inside env v) l.wd) (λ v. n.truth (inside env v)) (vals scope t) x h

  pub exists_judged : (t : EbType) (n : Meaning) (l : Conditions) → have_type scope (vals scope t) t ≡ true
      → ((v : Value) → has_type scope v t ≡ true → truth_in scope (inside env v) l.wd ≡ saying (n.truth (inside env v)))
      → truth_in scope env (term.all binder.ForAll t l.wd) ≡ saying (exists (map (λ v. n.truth (inside env v)) (vals scope t)))
  exists_judged t n l x h = truth-for_all scope env t l.wd ∙ saying-exists (λ v. has_type scope v t) (λ v. truth_in scope (inside env v) l.wd) (λ v. n.truth (inside env v)) (vals scope t) x h
