-- Operators, calls and parts: where the parts are Undefined or of the types that the table of types asks, the whole is Undefined or
-- of the type that the table gives.
use Rattle.std.proofs.Common.{◌≡◌, ◌∙◌, ℤ, pos, ◌-◌, Bool, true, false, List, length, Some, None, option_and_then, ◌+ℤ◌, ◌-ℤ◌, ◌*ℤ◌, refl}
use Rattle.eb_syntax.specs.declared.ast.Operator.{Operator}
use Rattle.eb_syntax.specs.declared.ast.Operator.TheVariants as op
use Rattle.eb_syntax.specs.declared.ast.Prefix.{Prefix}
use Rattle.eb_syntax.specs.declared.ast.Prefix.TheVariants as prefix
use Rattle.eb_syntax.specs.declared.ast.Call.{Call}
use Rattle.eb_syntax.specs.declared.ast.Call.TheVariants as call
use Rattle.type_table.specs.Rows.{Sort, predicate, expression, Choice, sort, relation, prefix_row, call_row, inverse_row, operator_row}
use Rattle.eb_value.specs.declared.scope.Scope.{Scope}
use Rattle.eb_value.specs.declared.types.EbType.{EbType}
use Rattle.eb_value.specs.declared.value.Value.{Value}
use Rattle.eb_value.specs.Canonical.{IsCanonical}
use Rattle.eb_value.specs.Types.{integer, boolean, product, power}
use Rattle.eb_value.specs.Values.{int, truth, pair, set}
use Rattle.eb_value.specs.Typing.{has_type, have_type, in_range}
use Rattle.eb_value.specs.Comprehensions as sets
use Rattle.eb_meaning.specs.Meaning.{Slot, Env, Meaning, with_two, with_ints, with_set, with_sets, int_by, value_by, call_by, bool_of, by_prefix, by_call}
use Rattle.eb_operations.specs.declared.truth3.Truth3.{Truth3}
use Rattle.eb_operations.specs.declared.truth3.Truth3.TheVariants.{True, False, Undefined}
use Rattle.eb_meaning.proofs.Hypotheses.{Laws}
use Rattle.eb_meaning.proofs.Lists.{both_so}
use Rattle.eb_meaning.proofs.TypedOperations.{Fits, IsSetOfType, has_type-truth, has_type-pair, integer_fits, defined_fits, quotient_fits, power_fits, remainder_fits, on_integer, on_integers, on_two_slots, on_slot}
use Rattle.eb_meaning.proofs.TypedOperations as on

-- A predicate may have any value; an expression is Undefined or has one of its type.
abbrev pub IsOf : Scope → Sort → Slot → Type 0
IsOf scope predicate o = Unit {0}
IsOf scope (expression t) o = Fits scope t o

truth_fits : (scope : Scope) (b : Bool) → Fits scope boolean (Some (truth b))
truth_fits scope b = has_type-truth scope b

bool_fits : (scope : Scope) (p : Truth3) → Fits scope boolean (bool_of p)
bool_fits scope True = truth_fits scope true
bool_fits scope False = truth_fits scope false
bool_fits scope Undefined = refl

pair_fits : (scope : Scope) (s t : EbType) (v w : Value) → has_type scope v s ≡ true → has_type scope w t ≡ true → Fits scope (product s t) (Some (pair v w))
pair_fits scope s t v w h k = has_type-pair scope v w s t ∙ both_so (has_type scope v s) (has_type scope w t) h k

module _ (laws : Laws) (scope : Scope) where
  -- an operation on two integers
  ints : (t : EbType) (f : ℤ → ℤ → Slot) (a b : Slot) → Fits scope integer a → Fits scope integer b → ((m n : ℤ) → in_range m ≡ true → in_range n ≡ true → Fits scope t (f m n)) → Fits scope t (with_two (with_ints f) a b)
  ints t f a b h k r = on_two_slots scope integer integer t (with_ints f) a b h k (λ v w p q. on_integers scope t f v w p q r)

  -- an operation on two sets
  two : (s t u : EbType) (f : List Value → List Value → Slot) (a b : Slot) → Fits scope (power s) a → Fits scope (power t) b → ((xs ys : List Value) → IsSetOfType scope s xs → IsSetOfType scope t ys → Fits scope u (f xs ys)) → Fits scope u (with_two (with_sets f) a b)
  two s t u f a b h k r = on_two_slots scope (power s) (power t) u (with_sets f) a b h k (λ v w p q. on.on_sets laws scope s t u f v w p q r)

  -- a set that an operation makes
  made : (t : EbType) (xs : List Value) → have_type scope xs t ≡ true → IsCanonical (set xs) → Fits scope (power t) (Some (set xs))
  made = on.made laws scope

  -- the sets of relations have no value
  no_sets : (s t u : EbType) (a b : Slot) → Fits scope (power s) a → Fits scope (power t) b → Fits scope u (with_two (with_sets (λ xs ys. None)) a b)
  no_sets s t u a b h k = two s t u (λ xs ys. None) a b h k (λ xs ys p q. refl)

  pub operator_fits : (o : Operator) (v : Choice) (a b : Slot) → IsOf scope (sort v (operator_row o).left) a → IsOf scope (sort v (operator_row o).right) b → IsOf scope (sort v (operator_row o).whole) (with_two (value_by o) a b)
  operator_fits op.Implies v a b h k = tt
  operator_fits op.Equivalent v a b h k = tt
  operator_fits op.Or v a b h k = tt
  operator_fits op.And v a b h k = tt
  operator_fits op.Equal v a b h k = tt
  operator_fits op.Unequal v a b h k = tt
  operator_fits op.MemberOf v a b h k = tt
  operator_fits op.NotMemberOf v a b h k = tt
  operator_fits op.SubsetOf v a b h k = tt
  operator_fits op.NotSubsetOf v a b h k = tt
  operator_fits op.ProperSubsetOf v a b h k = tt
  operator_fits op.NotProperSubsetOf v a b h k = tt
  operator_fits op.Less v a b h k = tt
  operator_fits op.AtMost v a b h k = tt
  operator_fits op.Greater v a b h k = tt
  operator_fits op.AtLeast v a b h k = tt
  operator_fits op.MapsTo v a b h k = on_two_slots scope v.for_a v.for_b (product v.for_a v.for_b) (value_by op.MapsTo) a b h k (λ x y p q. pair_fits scope v.for_a v.for_b x y p q)
  operator_fits op.UpTo v a b h k = ints (power integer) (int_by op.UpTo) a b h k (λ m n p q. on.interval_fits laws scope m n p q)
  operator_fits op.Plus v a b h k = ints integer (int_by op.Plus) a b h k (λ m n p q. defined_fits scope (m +ℤ n))
  operator_fits op.Minus v a b h k = ints integer (int_by op.Minus) a b h k (λ m n p q. defined_fits scope (m -ℤ n))
  operator_fits op.Times v a b h k = ints integer (int_by op.Times) a b h k (λ m n p q. defined_fits scope (m *ℤ n))
  operator_fits op.Divide v a b h k = ints integer (int_by op.Divide) a b h k (λ m n p q. quotient_fits scope m n)
  operator_fits op.Modulo v a b h k = ints integer (int_by op.Modulo) a b h k (λ m n p q. remainder_fits scope m n p)
  operator_fits op.Power v a b h k = ints integer (int_by op.Power) a b h k (λ m n p q. power_fits scope m n)
  operator_fits op.Relation v a b h k = no_sets v.for_a v.for_b (power (relation v.for_a v.for_b)) a b h k
  operator_fits op.TotalRelation v a b h k = no_sets v.for_a v.for_b (power (relation v.for_a v.for_b)) a b h k
  operator_fits op.SurjectiveRelation v a b h k = no_sets v.for_a v.for_b (power (relation v.for_a v.for_b)) a b h k
  operator_fits op.TotalSurjectiveRelation v a b h k = no_sets v.for_a v.for_b (power (relation v.for_a v.for_b)) a b h k
  operator_fits op.PartialFunction v a b h k = no_sets v.for_a v.for_b (power (relation v.for_a v.for_b)) a b h k
  operator_fits op.TotalFunction v a b h k = no_sets v.for_a v.for_b (power (relation v.for_a v.for_b)) a b h k
  operator_fits op.PartialInjection v a b h k = no_sets v.for_a v.for_b (power (relation v.for_a v.for_b)) a b h k
  operator_fits op.TotalInjection v a b h k = no_sets v.for_a v.for_b (power (relation v.for_a v.for_b)) a b h k
  operator_fits op.PartialSurjection v a b h k = no_sets v.for_a v.for_b (power (relation v.for_a v.for_b)) a b h k
  operator_fits op.TotalSurjection v a b h k = no_sets v.for_a v.for_b (power (relation v.for_a v.for_b)) a b h k
  operator_fits op.Bijection v a b h k = no_sets v.for_a v.for_b (power (relation v.for_a v.for_b)) a b h k
  operator_fits op.Union v a b h k = two v.for_a v.for_a (power v.for_a) (λ xs ys. Some (set (sets.union xs ys))) a b h k (λ xs ys p q. made v.for_a (sets.union xs ys) (laws.types.union scope v.for_a xs ys p.members q.members) (laws.canonical.union xs ys p.canonical q.canonical))
  operator_fits op.Intersection v a b h k = two v.for_a v.for_a (power v.for_a) (λ xs ys. Some (set (sets.meet xs ys))) a b h k (λ xs ys p q. made v.for_a (sets.meet xs ys) (laws.types.meet scope v.for_a xs ys p.members q.members) (laws.canonical.meet xs ys p.canonical q.canonical))
  operator_fits op.Difference v a b h k = two v.for_a v.for_a (power v.for_a) (λ xs ys. Some (set (sets.minus xs ys))) a b h k (λ xs ys p q. made v.for_a (sets.minus xs ys) (laws.types.minus scope v.for_a xs ys p.members q.members) (laws.canonical.minus xs ys p.canonical q.canonical))
  operator_fits op.Product v a b h k = two v.for_a v.for_b (power (product v.for_a v.for_b)) (λ xs ys. Some (set (sets.cross xs ys))) a b h k (λ xs ys p q. made (product v.for_a v.for_b) (sets.cross xs ys) (laws.types.cross scope v.for_a v.for_b xs ys p.members q.members) (laws.canonical.cross xs ys p.canonical q.canonical))
  operator_fits op.ForwardComposition v a b h k = two (product v.for_a v.for_b) (product v.for_b v.for_c) (power (product v.for_a v.for_c)) (λ xs ys. Some (set (sets.compose xs ys))) a b h k (λ xs ys p q. made (product v.for_a v.for_c) (sets.compose xs ys) (laws.types.compose scope v.for_a v.for_b v.for_c xs ys p.members q.members) (laws.canonical.compose xs ys p.canonical q.canonical))
  operator_fits op.BackwardComposition v a b h k = two (product v.for_b v.for_c) (product v.for_a v.for_b) (power (product v.for_a v.for_c)) (λ xs ys. Some (set (sets.compose ys xs))) a b h k (λ xs ys p q. made (product v.for_a v.for_c) (sets.compose ys xs) (laws.types.compose scope v.for_a v.for_b v.for_c ys xs q.members p.members) (laws.canonical.compose ys xs q.canonical p.canonical))
  operator_fits op.DomainRestriction v a b h k = two v.for_a (product v.for_a v.for_b) (power (product v.for_a v.for_b)) (λ xs ys. Some (set (sets.dom_keep xs ys))) a b h k (λ xs ys p q. made (product v.for_a v.for_b) (sets.dom_keep xs ys) (laws.types.dom_keep scope v.for_a v.for_b xs ys p.members q.members) (laws.canonical.dom_keep xs ys p.canonical q.canonical))
  operator_fits op.DomainSubtraction v a b h k = two v.for_a (product v.for_a v.for_b) (power (product v.for_a v.for_b)) (λ xs ys. Some (set (sets.dom_drop xs ys))) a b h k (λ xs ys p q. made (product v.for_a v.for_b) (sets.dom_drop xs ys) (laws.types.dom_drop scope v.for_a v.for_b xs ys p.members q.members) (laws.canonical.dom_drop xs ys p.canonical q.canonical))
  operator_fits op.RangeRestriction v a b h k = two (product v.for_a v.for_b) v.for_b (power (product v.for_a v.for_b)) (λ xs ys. Some (set (sets.ran_keep xs ys))) a b h k (λ xs ys p q. made (product v.for_a v.for_b) (sets.ran_keep xs ys) (laws.types.ran_keep scope v.for_a v.for_b xs ys p.members q.members) (laws.canonical.ran_keep xs ys p.canonical q.canonical))
  operator_fits op.RangeSubtraction v a b h k = two (product v.for_a v.for_b) v.for_b (power (product v.for_a v.for_b)) (λ xs ys. Some (set (sets.ran_drop xs ys))) a b h k (λ xs ys p q. made (product v.for_a v.for_b) (sets.ran_drop xs ys) (laws.types.ran_drop scope v.for_a v.for_b xs ys p.members q.members) (laws.canonical.ran_drop xs ys p.canonical q.canonical))
  operator_fits op.Override v a b h k = two (product v.for_a v.for_b) (product v.for_a v.for_b) (power (product v.for_a v.for_b)) (λ xs ys. Some (set (sets.overlay xs ys))) a b h k (λ xs ys p q. made (product v.for_a v.for_b) (sets.overlay xs ys) (laws.types.overlay scope v.for_a v.for_b xs ys p.members q.members) (laws.canonical.overlay xs ys p.canonical q.canonical))
  operator_fits op.DirectProduct v a b h k = two (product v.for_a v.for_b) (product v.for_a v.for_c) (power (product v.for_a (product v.for_b v.for_c))) (λ xs ys. Some (set (sets.direct xs ys))) a b h k (λ xs ys p q. made (product v.for_a (product v.for_b v.for_c)) (sets.direct xs ys) (laws.types.direct scope v.for_a v.for_b v.for_c xs ys p.members q.members) (laws.canonical.direct xs ys p.canonical q.canonical))
  operator_fits op.ParallelProduct v a b h k = two (product v.for_a v.for_c) (product v.for_b v.for_d) (power (product (product v.for_a v.for_b) (product v.for_c v.for_d))) (λ xs ys. Some (set (sets.parallel xs ys))) a b h k (λ xs ys p q. made (product (product v.for_a v.for_b) (product v.for_c v.for_d)) (sets.parallel xs ys) (laws.types.parallel scope v.for_a v.for_c v.for_b v.for_d xs ys p.members q.members) (laws.canonical.parallel xs ys p.canonical q.canonical))
  operator_fits op.Image v a b h k = two (product v.for_a v.for_b) v.for_a (power v.for_b) (λ xs ys. Some (set (sets.image xs ys))) a b h k (λ xs ys p q. made v.for_b (sets.image xs ys) (laws.types.image scope v.for_a v.for_b xs ys p.members q.members) (laws.canonical.image xs ys p.canonical q.canonical))
  operator_fits op.Apply v a b h k = on_two_slots scope (relation v.for_a v.for_b) v.for_a v.for_b (value_by op.Apply) a b h k (λ f x p q. on.on_set laws scope (product v.for_a v.for_b) v.for_b (λ r. sets.apply r x) f p (λ r g. on.apply_fits_at laws scope v.for_a v.for_b r x (sets.apply r x) refl g.members q))

  one : (t u : EbType) (f : List Value → Slot) (a : Slot) → Fits scope (power t) a → ((xs : List Value) → IsSetOfType scope t xs → Fits scope u (f xs)) → Fits scope u (option_and_then (with_set f) a)
  one t u f a h r = on_slot scope (power t) u (with_set f) a h (λ v p. on.on_set laws scope t u f v p r)

  pub call_fits : (o : Call) (v : Choice) (env : Env) (a : Meaning) → IsOf scope (sort v (call_row o).part) (a.value env) → IsOf scope (sort v (call_row o).whole) ((by_call o a).value env)
  call_fits call.PowerSet v env a h = refl
  call_fits call.NonemptyPowerSet v env a h = refl
  call_fits call.BoolOf v env a h = bool_fits scope (a.truth env)
  call_fits call.Finite v env a h = tt
  call_fits call.Cardinality v env a h = one v.for_a integer (call_by call.Cardinality) (a.value env) h (λ xs p. defined_fits scope (pos (length xs)))
  call_fits call.Minimum v env a h = one integer integer (call_by call.Minimum) (a.value env) h (λ xs p. on.first_fits laws scope integer xs p.members)
  call_fits call.Maximum v env a h = one integer integer (call_by call.Maximum) (a.value env) h (λ xs p. on.element_fits laws scope integer xs (length xs - 1) p.members)
  call_fits call.Domain v env a h = one (product v.for_a v.for_b) (power v.for_a) (call_by call.Domain) (a.value env) h (λ xs p. made v.for_a (sets.domain xs) (laws.types.domain scope v.for_a v.for_b xs p.members) (laws.canonical.domain xs p.canonical))
  call_fits call.Range v env a h = one (product v.for_a v.for_b) (power v.for_b) (call_by call.Range) (a.value env) h (λ xs p. made v.for_b (sets.range xs) (laws.types.range scope v.for_a v.for_b xs p.members) (laws.canonical.range xs p.canonical))
  call_fits call.GeneralizedUnion v env a h = one (power v.for_a) (power v.for_a) (call_by call.GeneralizedUnion) (a.value env) h (λ xs p. on.union_fits laws scope v.for_a xs p.members)
  call_fits call.GeneralizedIntersection v env a h = one (power v.for_a) (power v.for_a) (call_by call.GeneralizedIntersection) (a.value env) h (λ xs p. on.meet_fits laws scope v.for_a xs p.members)

  pub inverse_fits : (v : Choice) (a : Slot) → IsOf scope (sort v inverse_row.part) a → IsOf scope (sort v inverse_row.whole) (option_and_then (with_set (λ r. Some (set (sets.inverse r)))) a)
  inverse_fits v a h = one (product v.for_a v.for_b) (relation v.for_b v.for_a) (λ r. Some (set (sets.inverse r))) a h (λ xs p. made (product v.for_b v.for_a) (sets.inverse xs) (laws.types.inverse scope v.for_a v.for_b xs p.members) (laws.canonical.inverse xs p.canonical))

  pub prefix_fits : (o : Prefix) (v : Choice) (env : Env) (a : Meaning) → IsOf scope (sort v (prefix_row o).part) (a.value env) → IsOf scope (sort v (prefix_row o).whole) ((by_prefix o a).value env)
  prefix_fits prefix.Not v env a h = tt
  prefix_fits prefix.Minus v env a h = on_slot scope integer integer (λ x. with_ints (int_by op.Minus) (int (pos 0)) x) (a.value env) h (λ x p. on_integers scope integer (int_by op.Minus) (int (pos 0)) x (integer_fits scope (pos 0) refl) p (λ m n q r. defined_fits scope (m -ℤ n)))
