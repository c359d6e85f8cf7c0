-- Up at a typed node has what comes of it.
use Rattle.std.proofs.Common.{◌≡◌, ◌∙◌, ℕ, suc, ◌+◌, Bool, true, false, ◌&&◌, List, ◌∷◌, slice_get, Option, Some, None, refl, sym, ap, ap₂, rules}
use Rattle.std.specs.Prelude.{option_and_then}
use Rattle.std.specs.Cmp.{first_so, second_so}
use Rattle.eb_syntax.specs.declared.ast.Prefix.TheVariants as prefix
use Rattle.eb_syntax.specs.declared.ast.Call.{Call}
use Rattle.eb_syntax.specs.declared.ast.Call.TheVariants as call
use Rattle.eb_syntax.specs.declared.ast.Operator.{Operator}
use Rattle.eb_syntax.specs.declared.ast.Operator.TheVariants as op
use Rattle.eb_value.specs.declared.scope.Scope.{Scope}
use Rattle.eb_value.specs.declared.types.EbType.{EbType}
use Rattle.eb_value.specs.declared.value.Value.{Value}
use Rattle.eb_value.specs.Typing.{has_type}
use Rattle.eb_value.specs.Types.{integer, boolean, product}
use Rattle.type_table.specs.Rows.{Sort, predicate, expression, Choice, sort, call_row, operator_row}
use Rattle.eb_operations.specs.declared.truth3.Truth3.{Truth3}
use Rattle.eb_operations.specs.declared.truth3.Truth3.TheVariants.{True, False, Undefined}
use Rattle.eb_operations.specs.Truths.{truth_of, tested, negation}
use Rattle.eb_operations.specs.Operations.{is_value, bool_of, part_of, with_two, with_ints, value_by}
use Rattle.eb_operations.specs.Tests.{test_by}
use Rattle.eb_term.specs.declared.operators.Unary.{Unary}
use Rattle.eb_term.specs.declared.operators.Unary.TheVariants as unary
use Rattle.eb_term.specs.declared.operators.Binary.{Binary}
use Rattle.eb_term.specs.declared.operators.Binary.TheVariants as binary
use Rattle.eb_term.specs.declared.operators.Many.{Many}
use Rattle.eb_term.specs.declared.operators.Many.TheVariants as many
use Rattle.eb_term.specs.declared.operators.Binder.{Binder}
use Rattle.eb_term.specs.declared.operators.Binder.TheVariants as binder
use Rattle.eb_term.specs.declared.operators.Infinite.{Infinite}
use Rattle.eb_term.specs.declared.operators.Side.{Side}
use Rattle.eb_term.specs.declared.term.Term.{Term}
use Rattle.eb_term.specs.declared.term.Head.{the_lemmas}
use Rattle.eb_term.specs.declared.term.Head.TheOpen as head
use Rattle.eb_term.specs.Terms as term
use Rattle.eb_term.specs.Terms.{layer}
use Rattle.eb_term.specs.Typed as typed
use Rattle.eb_term.specs.Typed.{HasSort, of_two}
use Rattle.eb_meaning.specs.Meaning.{Slot, Env, meaning, by_unary, by_binary, value_of, truth_in, slot_at, variable_at}
use Rattle.eb_meaning.specs.Fitting.{slot_has_type, fits}
use Rattle.term_types.specs.Types.{type_of}
use Rattle.problem_nodes.specs.Places.{parts_of_layer, size, starts}
use Rattle.occ_domains.specs.declared.domain.Domain.{Domain}
use Rattle.occ_domains.specs.Bodies as bodies
use Rattle.occ_domains.specs.Domains.{Outcome, truth, slot, has, only}
use Rattle.occ_domains.specs.Wholes.{whole, is_without_sets}
use Rattle.rules_integers.specs.declared.arithmetic.Arithmetic.{Arithmetic}
use Rattle.rules_integers.specs.declared.arithmetic.Arithmetic.TheVariants as arithmetic
use Rattle.rules_integers.specs.Arithmetic as integers
use Rattle.rules_base.specs.declared.connective.Connective.{Connective}
use Rattle.rules_base.specs.declared.connective.Connective.TheVariants as connective
use Rattle.rules_base.specs.Connectives.{truth_by}
use Rattle.rules_base.specs.declared.rule.UnaryRule.{UnaryRule}
use Rattle.rules_base.specs.declared.rule.UnaryRule.TheVariants as one
use Rattle.rules_base.specs.declared.rule.BinaryRule.{BinaryRule}
use Rattle.rules_base.specs.declared.rule.BinaryRule.TheVariants as two
use Rattle.rules_base.specs.Operators.{unary_rule, binary_rule}
use Rattle.rules_base.specs.Outcomes.{of_one, of_sides, is_ranged}
use Rattle.rules_base.specs.Outcomes.{of_two as of_both}
use Rattle.rules_base.specs.Rules.{up_one, up_two, down_one, down_two}
use Rattle.occurrences.specs.declared.place.Place.TheVariants as place
use Rattle.occurrences.specs.Binding.{binds_layer}
use Rattle.occurrences.specs.Stores.{Domains, truth_alone, all_truths, whole_of}
use Rattle.occurrences.specs.Outcomes.{env_of, outcome_by, outcome_of}
use Rattle.node_rules.specs.Nodes.{whole_values, known, known_slot, up_unary, up_binary, up_layer}
use Rattle.node_rules.specs.Sound.{PartsHave, ReferenceHas}
use Rattle.node_rules.proofs.Typed.{typed_ranged}

-- what the law rests on
pub record Laws (scope : Scope) (refs : List Slot) (bound : List Value) (types : List EbType) : Type 0 where
  pub value : (t : Term) (ty : EbType) → HasSort types t (expression ty) → type_of t ≡ Some ty
  pub truth : (t : Term) → HasSort types t predicate → type_of t ≡ None
  pub typed : (t : Term) (ty : EbType) → HasSort types t (expression ty) → fits scope refs t ≡ true → slot_has_type scope (value_of scope (env_of refs bound) t) ty ≡ true
  pub only : (s : Option Value) → has (only s) (slot s) ≡ true
  pub whole : (ty : EbType) (v : Value) → has_type scope v ty ≡ true → bodies.has (whole scope ty) v ≡ true
  pub up_one : (rule : UnaryRule) (d : Domain) (x z : Outcome) → has d x ≡ true → of_one rule x ≡ Some z → has (up_one rule d) z ≡ true
  pub down_one : (rule : UnaryRule) (w d : Domain) (x z : Outcome) → has d x ≡ true → of_one rule x ≡ Some z → has w z ≡ true → has (down_one rule w d) x ≡ true
  pub down_two : (rule : BinaryRule) (s : Side) (w a b : Domain) (x y z : Outcome) → is_ranged x ≡ true → is_ranged y ≡ true → has a x ≡ true → has b y ≡ true → of_sides rule s x y ≡ Some z → has w z ≡ true
      → has (down_two rule s w a b) x ≡ true
  pub up_two : (rule : BinaryRule) (a b : Domain) (x y z : Outcome) → is_ranged x ≡ true → is_ranged y ≡ true → has a x ≡ true → has b y ≡ true → of_both rule x y ≡ Some z → has (up_two rule a b) z ≡ true

-- ---- terms at the constructors

pub layer-unary : (o : Unary) (a : Term) → layer (term.unary o a) ≡ head.Unary o a
layer-unary o a = search (rules, the_lemmas)

pub layer-binary : (o : Binary) (a b : Term) → layer (term.binary o a b) ≡ head.Binary o a b
layer-binary o a b = search (rules, the_lemmas)

pub layer-truth : (b : Bool) → layer (term.truth b) ≡ head.Truth b
layer-truth b = search (rules, the_lemmas)

pub layer-literal : (v : Value) (ty : EbType) → layer (term.literal v ty) ≡ head.Literal v ty
layer-literal v ty = search (rules, the_lemmas)

pub layer-reference : (n : ℕ) (ty : EbType) → layer (term.reference n ty) ≡ head.Reference n ty
layer-reference n ty = search (rules, the_lemmas)

pub layer-variable : (n : ℕ) (path : List Side) (ty : EbType) → layer (term.variable n path ty) ≡ head.Variable n path ty
layer-variable n path ty = search (rules, the_lemmas)

pub layer-infinite : (i : Infinite) → layer (term.infinite i) ≡ head.Infinite i
layer-infinite i = search (rules, the_lemmas)

pub layer-identity : (ty : EbType) → layer (term.identity ty) ≡ head.Identity ty
layer-identity ty = search (rules, the_lemmas)

pub layer-projection : (x : Side) (a b : EbType) → layer (term.projection x a b) ≡ head.Projection x a b
layer-projection x a b = search (rules, the_lemmas)

pub layer-many : (o : Many) (es : List Term) → layer (term.many o es) ≡ head.Many o es
layer-many o es = search (rules, the_lemmas)

pub layer-over : (o : Binder) (e p : Term) → layer (term.over o e p) ≡ head.Over o e p
layer-over o e p = search (rules, the_lemmas)

pub layer-all : (o : Binder) (ty : EbType) (p : Term) → layer (term.all o ty p) ≡ head.All o ty p
layer-all o ty p = search (rules, the_lemmas)

module _ (scope : Scope) where
  meaning-unary : (o : Unary) (a : Term) → meaning scope (term.unary o a) ≡ by_unary o (meaning scope a)
  meaning-unary o a = search (rules, the_lemmas)

  meaning-binary : (o : Binary) (a b : Term) → meaning scope (term.binary o a b) ≡ by_binary o (meaning scope a) (meaning scope b)
  meaning-binary o a b = search (rules, the_lemmas)

  truth-in : (env : Env) (b : Bool) → truth_in scope env (term.truth b) ≡ truth_of b
  truth-in env b = search (rules, the_lemmas)

  literal-value : (env : Env) (v : Value) (ty : EbType) → value_of scope env (term.literal v ty) ≡ Some v
  literal-value env v ty = search (rules, the_lemmas)

  reference-value : (env : Env) (n : ℕ) (ty : EbType) → value_of scope env (term.reference n ty) ≡ slot_at env.refs n
  reference-value env n ty = search (rules, the_lemmas)

  variable-value : (env : Env) (n : ℕ) (path : List Side) (ty : EbType) → value_of scope env (term.variable n path ty) ≡ variable_at env n path
  variable-value env n path ty = search (rules, the_lemmas)

  fits-literal : (refs : List Slot) (v : Value) (ty : EbType) → fits scope refs (term.literal v ty) ≡ has_type scope v ty
  fits-literal refs v ty = search (rules, the_lemmas)

  fits-unary : (refs : List Slot) (o : Unary) (a : Term) → fits scope refs (term.unary o a) ≡ fits scope refs a
  fits-unary refs o a = search (rules, the_lemmas)

  pub fits-binary : (refs : List Slot) (o : Binary) (a b : Term) → fits scope refs (term.binary o a b) ≡ (fits scope refs a && fits scope refs b)
  fits-binary refs o a b = search (rules, the_lemmas)

-- ---- what comes of a term

all_have : (p : Truth3) → has all_truths (truth p) ≡ true
all_have True = refl
all_have False = refl
all_have Undefined = refl

truth_has : (b : Bool) → has (truth_alone b) (truth (truth_of b)) ≡ true
truth_has true = refl
truth_has false = refl

module _ (scope : Scope) (refs : List Slot) (bound : List Value) (types : List EbType) (laws : Laws scope refs bound types) where
  abbrev pub env : Env
  env = env_of refs bound

  outcome_truth : (t : Term) → HasSort types t predicate → outcome_of scope env t ≡ truth (truth_in scope env t)
  outcome_truth t h = ap (λ o. outcome_by o scope env t) (laws.truth t h)

  outcome_value : (t : Term) (ty : EbType) → HasSort types t (expression ty) → outcome_of scope env t ≡ slot (value_of scope env t)
  outcome_value t ty h = ap (λ o. outcome_by o scope env t) (laws.value t ty h)

  whole_slot : (ty : EbType) (e : Slot) → slot_has_type scope e ty ≡ true → has (whole_values scope ty) (slot e) ≡ true
  whole_slot ty None h = refl
  whole_slot ty (Some v) h = laws.whole ty v h

  pub whole_has : (t : Term) (s : Sort) → HasSort types t s → fits scope refs t ≡ true → has (whole_of scope t) (outcome_of scope env t) ≡ true
  whole_has t predicate h f = rw (laws.truth t h) (all_have (truth_in scope env t))
  whole_has t (expression ty) h f = rw (laws.value t ty h) (whole_slot ty (value_of scope env t) (laws.typed t ty h f))

  ranged_slot : (ty : EbType) (e : Slot) → slot_has_type scope e ty ≡ true → is_ranged (slot e) ≡ true
  ranged_slot ty None h = refl
  ranged_slot ty (Some v) h = typed_ranged scope v ty h

  pub ranged : (t : Term) (s : Sort) → HasSort types t s → fits scope refs t ≡ true → is_ranged (outcome_of scope env t) ≡ true
  ranged t predicate h f = rw (laws.truth t h) refl
  ranged t (expression ty) h f = rw (laws.value t ty h) (ranged_slot ty (value_of scope env t) (laws.typed t ty h f))

  known_has : (ty : EbType) (v : Value) → has_type scope v ty ≡ true → has (known scope ty v) (slot (Some v)) ≡ true
  known_has ty v h = at (is_without_sets ty) refl where
    at : (c : Bool) → is_without_sets ty ≡ c → has (known scope ty v) (slot (Some v)) ≡ true
    at true e = rw e (laws.only (Some v))
    at false e = rw e (laws.whole ty v h)

  known_slot_has : (ty : EbType) (e : Slot) → slot_has_type scope e ty ≡ true → has (known_slot scope ty e) (slot e) ≡ true
  known_slot_has ty None h = refl
  known_slot_has ty (Some v) h = known_has ty v h

  -- ---- what the rules take to come of a node comes of it

  unary_truth : (o : Unary) (a : Term) (p : Truth3) → HasSort types (term.unary o a) predicate → (by_unary o (meaning scope a)).truth env ≡ p → outcome_of scope env (term.unary o a) ≡ truth p
  unary_truth o a p h e = outcome_truth (term.unary o a) h ∙ ap (λ m. truth (m.truth env)) (meaning-unary scope o a) ∙ ap truth e

  unary_value : (o : Unary) (a : Term) (ty : EbType) (e : Slot) → HasSort types (term.unary o a) (expression ty) → (by_unary o (meaning scope a)).value env ≡ e → outcome_of scope env (term.unary o a) ≡ slot e
  unary_value o a ty e h f = outcome_value (term.unary o a) ty h ∙ ap (λ m. slot (m.value env)) (meaning-unary scope o a) ∙ ap slot f

  abbrev pub Comes : Unary → Term → Type 0
  Comes o a = (rule : UnaryRule) → unary_rule o ≡ Some rule → of_one rule (outcome_of scope env a) ≡ Some (outcome_of scope env (term.unary o a))

  from_rule : (o : Unary) (a : Term) (r : UnaryRule) → unary_rule o ≡ Some r → of_one r (outcome_of scope env a) ≡ Some (outcome_of scope env (term.unary o a)) → Comes o a
  from_rule o a r e f rule g = ap (λ q. of_one q (outcome_of scope env a)) (same rule r (sym g ∙ e)) ∙ f where
    same : (x y : UnaryRule) → Some x ≡ Some y → x ≡ y
    same x y e = cc

  pub no_rule : (o : Unary) (a : Term) → unary_rule o ≡ None → Comes o a
  no_rule o a e rule g = let k : None ≡ Some rule = sym e ∙ g in cc

  pub not_comes : (a : Term) → HasSort types a predicate → HasSort types (term.unary (unary.Prefix prefix.Not) a) predicate → Comes (unary.Prefix prefix.Not) a
  not_comes a h w =
      from_rule (unary.Prefix prefix.Not) a one.Negation refl
      (ap (of_one one.Negation) (outcome_truth a h) ∙ ap Some (sym (unary_truth (unary.Prefix prefix.Not) a (negation (truth_in scope env a)) w refl)))

  bool_comes : (a : Term) (ty : EbType) → HasSort types a predicate → HasSort types (term.unary (unary.Call call.BoolOf) a) (expression ty) → Comes (unary.Call call.BoolOf) a
  bool_comes a ty h w =
      from_rule (unary.Call call.BoolOf) a one.AsValue refl
      (ap (of_one one.AsValue) (outcome_truth a h) ∙ ap Some (sym (unary_value (unary.Call call.BoolOf) a ty (bool_of (truth_in scope env a)) w refl)))

  pub defined_comes : (a : Term) (ty : EbType) → HasSort types a (expression ty) → HasSort types (term.unary unary.Defined a) predicate → Comes unary.Defined a
  defined_comes a ty h w =
      from_rule unary.Defined a one.Defined refl
      (ap (of_one one.Defined) (outcome_value a ty h) ∙ ap Some (sym (unary_truth unary.Defined a (truth_of (is_value (value_of scope env a))) w refl)))

  pub part_comes : (a : Term) (x : Side) (ty whole : EbType) → HasSort types a (expression whole) → HasSort types (term.unary (unary.Part x) a) (expression ty) → Comes (unary.Part x) a
  part_comes a x ty whole h w =
      from_rule (unary.Part x) a (one.Part x) refl
      (ap (of_one (one.Part x)) (outcome_value a whole h) ∙ ap Some (sym (unary_value (unary.Part x) a ty (option_and_then (part_of x) (value_of scope env a)) w refl)))

  binary_truth : (o : Binary) (a b : Term) (p : Truth3) → HasSort types (term.binary o a b) predicate → (by_binary o (meaning scope a) (meaning scope b)).truth env ≡ p → outcome_of scope env (term.binary o a b) ≡ truth p
  binary_truth o a b p h e = outcome_truth (term.binary o a b) h ∙ ap (λ m. truth (m.truth env)) (meaning-binary scope o a b) ∙ ap truth e

  binary_value : (o : Binary) (a b : Term) (ty : EbType) (e : Slot) → HasSort types (term.binary o a b) (expression ty) → (by_binary o (meaning scope a) (meaning scope b)).value env ≡ e
      → outcome_of scope env (term.binary o a b) ≡ slot e
  binary_value o a b ty e h f = outcome_value (term.binary o a b) ty h ∙ ap (λ m. slot (m.value env)) (meaning-binary scope o a b) ∙ ap slot f

  abbrev pub Come : Binary → Term → Term → Type 0
  Come o a b = (rule : BinaryRule) → binary_rule o ≡ Some rule → of_both rule (outcome_of scope env a) (outcome_of scope env b) ≡ Some (outcome_of scope env (term.binary o a b))

  from_two : (o : Binary) (a b : Term) (r : BinaryRule) → binary_rule o ≡ Some r → of_both r (outcome_of scope env a) (outcome_of scope env b) ≡ Some (outcome_of scope env (term.binary o a b)) → Come o a b
  from_two o a b r e f rule g = ap (λ q. of_both q (outcome_of scope env a) (outcome_of scope env b)) (same rule r (sym g ∙ e)) ∙ f where
    same : (x y : BinaryRule) → Some x ≡ Some y → x ≡ y
    same x y e = cc

  pub no_two : (o : Binary) (a b : Term) → binary_rule o ≡ None → Come o a b
  no_two o a b e rule g = let k : None ≡ Some rule = sym e ∙ g in cc

  pub connective_comes : (o : Binary) (c : Connective) (a b : Term) → binary_rule o ≡ Some (two.Connective c) → HasSort types a predicate → HasSort types b predicate → HasSort types (term.binary o a b) predicate
      → (by_binary o (meaning scope a) (meaning scope b)).truth env ≡ truth_by c (truth_in scope env a) (truth_in scope env b) → Come o a b
  connective_comes o c a b r h g w e =
      from_two o a b (two.Connective c) r
      (ap₂ (of_both (two.Connective c)) (outcome_truth a h) (outcome_truth b g) ∙ ap Some (sym (binary_truth o a b (truth_by c (truth_in scope env a) (truth_in scope env b)) w e)))

  equal_comes : (a b : Term) (ty : EbType) → HasSort types a (expression ty) → HasSort types b (expression ty) → HasSort types (term.binary (binary.Operator op.Equal) a b) predicate → Come (binary.Operator op.Equal) a b
  equal_comes a b ty h g w =
      from_two (binary.Operator op.Equal) a b two.Equal refl
      (ap₂ (of_both two.Equal) (outcome_value a ty h) (outcome_value b ty g)
      ∙ ap Some (sym (binary_truth (binary.Operator op.Equal) a b (tested (with_two (test_by op.Equal) (value_of scope env a) (value_of scope env b))) w refl)))

  order_comes : (a b : Term) (ty : EbType) → HasSort types a (expression ty) → HasSort types b (expression ty) → HasSort types (term.binary (binary.Operator op.AtMost) a b) predicate → Come (binary.Operator op.AtMost) a b
  order_comes a b ty h g w =
      from_two (binary.Operator op.AtMost) a b two.AtMost refl
      (ap₂ (of_both two.AtMost) (outcome_value a ty h) (outcome_value b ty g)
      ∙ ap Some (sym (binary_truth (binary.Operator op.AtMost) a b (tested (with_two (test_by op.AtMost) (value_of scope env a) (value_of scope env b))) w refl)))

  pair_comes : (a b : Term) (s t ty : EbType) → HasSort types a (expression s) → HasSort types b (expression t) → HasSort types (term.binary (binary.Operator op.MapsTo) a b) (expression ty) → Come (binary.Operator op.MapsTo) a b
  pair_comes a b s t ty h g w =
      from_two (binary.Operator op.MapsTo) a b two.Pair refl
      (ap₂ (of_both two.Pair) (outcome_value a s h) (outcome_value b t g)
      ∙ ap Some (sym (binary_value (binary.Operator op.MapsTo) a b ty (with_two (value_by op.MapsTo) (value_of scope env a) (value_of scope env b)) w refl)))

  arithmetic_comes : (o : Binary) (r : Arithmetic) (a b : Term) (ty whole : EbType) → binary_rule o ≡ Some (two.Arithmetic r) → HasSort types a (expression ty) → HasSort types b (expression ty) → HasSort types (term.binary o a b) (expression whole)
      → (by_binary o (meaning scope a) (meaning scope b)).value env ≡ with_two (with_ints (integers.value_by r)) (value_of scope env a) (value_of scope env b) → Come o a b
  arithmetic_comes o r a b ty whole q h g w e =
      from_two o a b (two.Arithmetic r) q
      (ap₂ (of_both (two.Arithmetic r)) (outcome_value a ty h) (outcome_value b ty g)
      ∙ ap Some (sym (binary_value o a b whole (with_two (with_ints (integers.value_by r)) (value_of scope env a) (value_of scope env b)) w e)))

  pub operator_comes : (o : Operator) (v : Choice) (a b : Term) → HasSort types a (sort v (operator_row o).left) → HasSort types b (sort v (operator_row o).right)
      → HasSort types (term.binary (binary.Operator o) a b) (sort v (operator_row o).whole) → Come (binary.Operator o) a b
  operator_comes op.And v a b h g w = connective_comes (binary.Operator op.And) connective.And a b refl h g w refl
  operator_comes op.Or v a b h g w = connective_comes (binary.Operator op.Or) connective.Or a b refl h g w refl
  operator_comes op.Implies v a b h g w = connective_comes (binary.Operator op.Implies) connective.Implies a b refl h g w refl
  operator_comes op.Equivalent v a b h g w = connective_comes (binary.Operator op.Equivalent) connective.Equivalent a b refl h g w refl
  operator_comes op.Equal v a b h g w = equal_comes a b v.for_a h g w
  operator_comes op.AtMost v a b h g w = order_comes a b integer h g w
  operator_comes op.MapsTo v a b h g w = pair_comes a b v.for_a v.for_b (product v.for_a v.for_b) h g w
  operator_comes op.Plus v a b h g w = arithmetic_comes (binary.Operator op.Plus) arithmetic.Sum a b integer integer refl h g w refl
  operator_comes op.Minus v a b h g w = arithmetic_comes (binary.Operator op.Minus) arithmetic.Difference a b integer integer refl h g w refl
  operator_comes op.Times v a b h g w = arithmetic_comes (binary.Operator op.Times) arithmetic.Product a b integer integer refl h g w refl
  operator_comes op.Divide v a b h g w = arithmetic_comes (binary.Operator op.Divide) arithmetic.Quotient a b integer integer refl h g w refl
  operator_comes op.Modulo v a b h g w = arithmetic_comes (binary.Operator op.Modulo) arithmetic.Remainder a b integer integer refl h g w refl
  operator_comes op.Power v a b h g w = arithmetic_comes (binary.Operator op.Power) arithmetic.Power a b integer integer refl h g w refl
  operator_comes o v a b h g w = no_two (binary.Operator o) a b refl

  pub call_comes : (o : Call) (v : Choice) (a : Term) → HasSort types a (sort v (call_row o).part) → HasSort types (term.unary (unary.Call o) a) (sort v (call_row o).whole) → Comes (unary.Call o) a
  call_comes call.BoolOf v a h w = bool_comes a boolean h w
  call_comes o v a h w = no_rule (unary.Call o) a refl

  -- ---- at the nodes

  module _ (choices : ℕ) (at : Domains) (k : ℕ) where
    abbrev Has : Term → Type 0
    Has t = has (up_layer scope choices at k bound t (layer t)) (outcome_of scope env t) ≡ true

    unary_has : (o : Unary) (a : Term) (s : Sort) → HasSort types (term.unary o a) s → Comes o a → fits scope refs (term.unary o a) ≡ true → PartsHave scope at refs bound k (term.unary o a) → Has (term.unary o a)
    unary_has o a s h comes f ps = rw (layer-unary o a) (by (unary_rule o) refl) where
      child : has (at (place.Node (suc k)) bound) (outcome_of scope env a) ≡ true
      child = ps 0 (suc k) a (ap (λ l. slice_get (parts_of_layer l) 0) (layer-unary o a)) (ap (λ l. slice_get (starts (suc k) (parts_of_layer l)) 0) (layer-unary o a)) (ap (λ l. binds_layer l 0) (layer-unary o a))

      by : (r : Option UnaryRule) → unary_rule o ≡ r → has (up_unary (unary_rule o) (whole_of scope (term.unary o a)) (at (place.Node (suc k)) bound)) (outcome_of scope env (term.unary o a)) ≡ true
      by None e = rw e (whole_has (term.unary o a) s h f)
      by (Some rule) e = rw e (laws.up_one rule (at (place.Node (suc k)) bound) (outcome_of scope env a) (outcome_of scope env (term.unary o a)) child (comes rule e))

    binary_has : (o : Binary) (a b : Term) (s p q : Sort) → HasSort types (term.binary o a b) s → HasSort types a p → HasSort types b q → Come o a b → fits scope refs (term.binary o a b) ≡ true
        → PartsHave scope at refs bound k (term.binary o a b) → Has (term.binary o a b)
    binary_has o a b s p q w h g comes f ps = rw (layer-binary o a b) (by (binary_rule o) refl) where
      both : (fits scope refs a && fits scope refs b) ≡ true
      both = sym (fits-binary scope refs o a b) ∙ f

      first : has (at (place.Node (suc k)) bound) (outcome_of scope env a) ≡ true
      first = ps 0 (suc k) a (ap (λ l. slice_get (parts_of_layer l) 0) (layer-binary o a b)) (ap (λ l. slice_get (starts (suc k) (parts_of_layer l)) 0) (layer-binary o a b)) (ap (λ l. binds_layer l 0) (layer-binary o a b))

      second : has (at (place.Node (suc k + size a)) bound) (outcome_of scope env b) ≡ true
      second = ps 1 (suc k + size a) b (ap (λ l. slice_get (parts_of_layer l) 1) (layer-binary o a b)) (ap (λ l. slice_get (starts (suc k) (parts_of_layer l)) 1) (layer-binary o a b)) (ap (λ l. binds_layer l 1) (layer-binary o a b))

      by : (r : Option BinaryRule) → binary_rule o ≡ r → has (up_binary (binary_rule o) (whole_of scope (term.binary o a b)) (at (place.Node (suc k)) bound) (at (place.Node (suc k + size a)) bound)) (outcome_of scope env (term.binary o a b)) ≡ true
      by None e = rw e (whole_has (term.binary o a b) s w f)
      by (Some rule) e = rw e (laws.up_two rule (at (place.Node (suc k)) bound) (at (place.Node (suc k + size a)) bound) (outcome_of scope env a) (outcome_of scope env b) (outcome_of scope env (term.binary o a b))
          (ranged a p h (first_so (fits scope refs a) (fits scope refs b) both)) (ranged b q g (second_so (fits scope refs a) (fits scope refs b) both)) first second (comes rule e))

    other : (t : Term) (s : Sort) → HasSort types t s → fits scope refs t ≡ true → up_layer scope choices at k bound t (layer t) ≡ whole_of scope t → Has t
    other t s h f e = rw e (whole_has t s h f)

    pub up_has : (t : Term) (s : Sort) → HasSort types t s → fits scope refs t ≡ true → PartsHave scope at refs bound k t → ReferenceHas choices at refs t → Has t
    up_has _ _ (typed.truth b) f ps r = rw (layer-truth b, outcome_truth (term.truth b) (typed.truth b), truth-in scope env b) (truth_has b)
    up_has _ _ (typed.literal v ty) f ps r =
        rw (layer-literal v ty, outcome_value (term.literal v ty) ty (typed.literal v ty), literal-value scope env v ty) (known_has ty v (sym (fits-literal scope refs v ty) ∙ f))
    up_has _ _ (typed.reference n ty) f ps r =
        rw (layer-reference n ty, outcome_value (term.reference n ty) ty (typed.reference n ty), reference-value scope env n ty) (r n ty (layer-reference n ty))
    up_has _ _ (typed.variable n path whole ty e g) f ps r =
        let h = typed.variable n path whole ty e g in
        rw (layer-variable n path ty, outcome_value (term.variable n path ty) ty h, variable-value scope env n path ty)
        (known_slot_has ty (variable_at env n path) (sym (ap (λ x. slot_has_type scope x ty) (variable-value scope env n path ty)) ∙ laws.typed (term.variable n path ty) ty h f))
    up_has _ _ (typed.infinite i) f ps r = other (term.infinite i) _ (typed.infinite i) f (ap (up_layer scope choices at k bound (term.infinite i)) (layer-infinite i))
    up_has _ _ (typed.identity ty) f ps r = other (term.identity ty) _ (typed.identity ty) f (ap (up_layer scope choices at k bound (term.identity ty)) (layer-identity ty))
    up_has _ _ (typed.projection x a b) f ps r = other (term.projection x a b) _ (typed.projection x a b) f (ap (up_layer scope choices at k bound (term.projection x a b)) (layer-projection x a b))
    up_has t s (typed.prefix {a = a} prefix.Not v h) f ps r = unary_has (unary.Prefix prefix.Not) a predicate (typed.prefix prefix.Not v h) (not_comes a h (typed.prefix prefix.Not v h)) f ps
    up_has t s (typed.prefix {a = a} prefix.Minus v h) f ps r = unary_has (unary.Prefix prefix.Minus) a _ (typed.prefix prefix.Minus v h) (no_rule (unary.Prefix prefix.Minus) a refl) f ps
    up_has t s (typed.call {a = a} o v h) f ps r = unary_has (unary.Call o) a _ (typed.call o v h) (call_comes o v a h (typed.call o v h)) f ps
    up_has t s (typed.inverse {a = a} v h) f ps r = unary_has unary.Inverse a _ (typed.inverse v h) (no_rule unary.Inverse a refl) f ps
    up_has t s (typed.defined {a = a} ty h) f ps r = unary_has unary.Defined a predicate (typed.defined ty h) (defined_comes a ty h (typed.defined ty h)) f ps
    up_has t s (typed.functional {a = a} x y h) f ps r = unary_has unary.Functional a predicate (typed.functional x y h) (no_rule unary.Functional a refl) f ps
    up_has t s (typed.part {a = a} x u w h) f ps r = unary_has (unary.Part x) a _ (typed.part x u w h) (part_comes a x (of_two x u w) (product u w) h (typed.part x u w h)) f ps
    up_has t s (typed.operator {a = a} {b = b} o v h g) f ps r =
        binary_has (binary.Operator o) a b _ _ _ (typed.operator o v h g) h g (operator_comes o v a b h g (typed.operator o v h g)) f ps
    up_has t s (typed.both {p = p} {q = q} h g) f ps r =
        binary_has binary.Both p q predicate predicate predicate (typed.both h g) h g (connective_comes binary.Both connective.Both p q refl h g (typed.both h g) refl) f ps
    up_has t s (typed.if {p = p} {s = e} ty h g) f ps r = binary_has binary.If p e _ _ _ (typed.if ty h g) h g (no_two binary.If p e refl) f ps
    up_has t s (typed.extension {e = e} {es = es} ty h) f ps r = other _ _ (typed.extension ty h) f (ap (up_layer scope choices at k bound (term.many many.Extension (e ∷ es))) (layer-many many.Extension (e ∷ es)))
    up_has t s (typed.partition {e = e} {es = es} ty h) f ps r = other _ _ (typed.partition ty h) f (ap (up_layer scope choices at k bound (term.many many.Partition (e ∷ es))) (layer-many many.Partition (e ∷ es)))
    up_has t s (typed.quantified_over {e = e} {p = p} o ty q h g) f ps r = other _ _ (typed.quantified_over o ty q h g) f (ap (up_layer scope choices at k bound (term.over o e p)) (layer-over o e p))
    up_has t s (typed.quantified {p = p} o ty q h) f ps r = other _ _ (typed.quantified o ty q h) f (ap (up_layer scope choices at k bound (term.all o ty p)) (layer-all o ty p))
    up_has t s (typed.collected_over {e = e} {s = b} ty u h g) f ps r = other _ _ (typed.collected_over ty u h g) f (ap (up_layer scope choices at k bound (term.over binder.Collect e b)) (layer-over binder.Collect e b))
    up_has t s (typed.collected {s = b} ty u h) f ps r = other _ _ (typed.collected ty u h) f (ap (up_layer scope choices at k bound (term.all binder.Collect ty b)) (layer-all binder.Collect ty b))
