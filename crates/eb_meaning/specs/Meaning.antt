-- What terms mean, row by row (Abrial, "Modeling in Event-B", 2010; Métayer and Voisin, "The Event-B Mathematical Language",
-- 2009): an expression's value or Undefined, a predicate's truth, and what the right side of a membership has.
use Rattle.std.specs.Prelude.{ℕ, Bool, true, false, not, ◌&&◌, ◌||◌, if◌then◌else◌, List, [], ◌∷◌, ◌++◌, map, Option, Some, None, option_map, option_and_then, slice_get, unwrap_or, pos}
use Rattle.std.specs.List.{list_all, flat_map}
use Rattle.eb_syntax.specs.declared.ast.Operator.{Operator}
use Rattle.eb_syntax.specs.declared.ast.Operator.TheVariants as op
use Rattle.eb_syntax.specs.declared.ast.Prefix.{Prefix}
use Rattle.eb_syntax.specs.declared.ast.Prefix.TheVariants as prefix
use Rattle.eb_syntax.specs.declared.ast.Call.{Call}
use Rattle.eb_syntax.specs.declared.ast.Call.TheVariants as call
use Rattle.eb_value.specs.declared.scope.Scope.{Scope}
use Rattle.eb_value.specs.declared.value.Value.{Value}
use Rattle.eb_value.specs.Values.{layer, int, truth, pair, set}
use Rattle.eb_value.specs.Scopes.{vals}
use Rattle.eb_value.specs.Comprehensions as sets
use Rattle.eb_value.specs.Comprehensions.{Maplet, members, maplets, maplet_in, same}
use Rattle.eb_term.specs.declared.operators.Unary.{Unary}
use Rattle.eb_term.specs.declared.operators.Unary.TheVariants as unary
use Rattle.eb_term.specs.declared.operators.Binary.{Binary}
use Rattle.eb_term.specs.declared.operators.Binary.TheVariants as binary
use Rattle.eb_term.specs.declared.operators.Many.{Many}
use Rattle.eb_term.specs.declared.operators.Many.TheVariants as many
use Rattle.eb_term.specs.declared.operators.Binder.{Binder}
use Rattle.eb_term.specs.declared.operators.Binder.TheVariants as binder
use Rattle.eb_term.specs.declared.operators.Side.{Side}
use Rattle.eb_term.specs.declared.term.Term.{Term}
use Rattle.eb_term.specs.declared.term.Head.{Head-F}
use Rattle.eb_term.specs.declared.term.Head.TheOpen as head
use Rattle.eb_term.specs.Terms.{by_parts}
use Rattle.eb_operations.specs.declared.truth3.Truth3.{Truth3}
use Rattle.eb_operations.specs.declared.truth3.Truth3.TheVariants.{Undefined}
use Rattle.eb_operations.specs.Truths.{truth_of, tested, negation, conjunction, disjunction, implication, equivalence, both, for_all, exists}
pub use Rattle.operator_kinds.specs.Operators.{is_arrow, is_total, is_surjective, is_function, is_injection, is_product}
pub use Rattle.eb_operations.specs.Operations.{Slot, is_value, with_two, with_ints, set_in, with_set, with_sets, int_by, is_arithmetic, set_by, value_by, last_of, call_by, bool_of, part_of_maplet, part_of, part_at, all_values, collected, empty_set, chosen, maplet_of_projection}
pub use Rattle.eb_operations.specs.Tests.{has_value, is_value_of, where_given, test_by, are_disjoint, is_partition, is_set_layer, is_set, is_empty, is_nonempty_set, int_passes, infinite_has, maplet_passes, is_pair, is_relation, if_asked}

-- What the references stand for, by place, and the value of each enclosing binder, outermost first.
pub record Env : Type 0 where
  pub refs : List Slot
  pub bound : List Value

-- the environment inside one more binder
abbrev pub inside : Env → Value → Env
inside env v = record { refs = env.refs; bound = env.bound ++ v ∷ [] }

-- What a term is in an environment: the value of an expression, which a predicate and a form don't have; the truth of a predicate,
-- which is Undefined for the others; and, to the right of a membership, whether its value parts are defined and which values it has.
pub record Meaning : Type 0 where
  pub value : Env → Slot
  pub truth : Env → Truth3
  pub is_given : Env → Bool
  pub has : Env → Value → Bool

-- an expression has the members of its value
abbrev pub expression : (Env → Slot) → Meaning
expression value = record { value = value; truth = λ env. Undefined; is_given = λ env. is_value (value env); has = λ env v. has_value (value env) v }

abbrev pub predicate : (Env → Truth3) → Meaning
predicate truth = record { value = λ env. None; truth = truth; is_given = λ env. false; has = λ env v. false }

-- a form has no value
abbrev pub form : (Env → Bool) → (Env → Value → Bool) → Meaning
form is_given has = record { value = λ env. None; truth = λ env. Undefined; is_given = is_given; has = has }

-- ---- expressions

-- ---- predicates

-- e : F
abbrev pub member : Env → Meaning → Meaning → Truth3
member env e F = where_given (F.is_given env) (F.has env) (e.value env)

-- each member of the value is in F
abbrev pub is_within : Env → Meaning → Value → Bool
is_within env F v = list_all (F.has env) (members v)

-- e <: F
abbrev pub subset : Env → Meaning → Meaning → Truth3
subset env e F = where_given (F.is_given env) (is_within env F) (e.value env)

-- e <<: F: within F, and not F itself
abbrev pub proper_subset : Env → Meaning → Meaning → Truth3
proper_subset env e F = where_given (F.is_given env) (λ v. is_within env F v && not (is_value_of (F.value env) v)) (e.value env)

-- the test of two values, where both are defined
abbrev pub compared : Operator → Env → Meaning → Meaning → Truth3
compared o env a b = tested (with_two (test_by o) (a.value env) (b.value env))

-- the truth of an operator on two parts; an operation has none
abbrev pub truth_by : Operator → Env → Meaning → Meaning → Truth3
truth_by op.And env p q = conjunction (p.truth env) (q.truth env)
truth_by op.Or env p q = disjunction (p.truth env) (q.truth env)
truth_by op.Implies env p q = implication (p.truth env) (q.truth env)
truth_by op.Equivalent env p q = equivalence (p.truth env) (q.truth env)
truth_by op.Equal env a b = compared op.Equal env a b
truth_by op.Unequal env a b = compared op.Unequal env a b
truth_by op.Less env a b = compared op.Less env a b
truth_by op.AtMost env a b = compared op.AtMost env a b
truth_by op.Greater env a b = compared op.Greater env a b
truth_by op.AtLeast env a b = compared op.AtLeast env a b
truth_by op.MemberOf env e F = member env e F
truth_by op.NotMemberOf env e F = negation (member env e F)
truth_by op.SubsetOf env e F = subset env e F
truth_by op.NotSubsetOf env e F = negation (subset env e F)
truth_by op.ProperSubsetOf env e F = proper_subset env e F
truth_by op.NotProperSubsetOf env e F = negation (proper_subset env e F)
truth_by _ env a b = Undefined

-- ---- forms

-- the value is a pair of a member of F and one of G
abbrev pub is_pair_of : Env → Meaning → Meaning → Value → Bool
is_pair_of env F G v = maplet_passes (λ m. F.has env m.first && G.has env m.second) (maplet_in (layer v))

-- the set is within F; where it is asked, it is all of F
abbrev pub covers : Bool → Env → Meaning → List Value → Bool
covers true env F s = is_value_of (F.value env) (set s)
covers false env F s = list_all (F.has env) s

-- r : F arrow G, where each member of r is a pair: its domain is within F and its range within G, all of them for a total and a
-- surjective arrow; a function relates no value to two, and an injection none to the value of another
abbrev pub is_related : Operator → Env → Meaning → Meaning → List Value → Bool
is_related arrow env F G r = covers (is_total arrow) env F (sets.domain r)
    && covers (is_surjective arrow) env G (sets.range r)
    && if_asked (is_function arrow) (sets.is_functional r)
    && if_asked (is_injection arrow) (sets.is_functional (sets.inverse r))

-- ---- terms by their parts

-- what stands at a place of the list, Undefined past its end
abbrev pub slot_at : List Slot → ℕ → Slot
slot_at slots place = unwrap_or (slice_get slots place) None

-- the value of an enclosing binder, or a part of it
abbrev pub variable_at : Env → ℕ → List Side → Slot
variable_at env k path = option_and_then (part_at path) (slice_get env.bound k)

abbrev pub by_prefix : Prefix → Meaning → Meaning
by_prefix prefix.Not p = predicate (λ env. negation (p.truth env))
by_prefix prefix.Minus a = expression (λ env. option_and_then (λ v. with_ints (int_by op.Minus) (int (pos 0)) v) (a.value env))

abbrev pub by_call : Call → Meaning → Meaning
by_call call.PowerSet F = form F.is_given (λ env v. is_set v && is_within env F v)
by_call call.NonemptyPowerSet F = form F.is_given (λ env v. is_nonempty_set v && is_within env F v)
by_call call.BoolOf p = expression (λ env. bool_of (p.truth env))
by_call call.Finite a = predicate (λ env. tested (option_map (λ v. true) (a.value env)))
by_call c a = expression (λ env. option_and_then (with_set (call_by c)) (a.value env))

abbrev pub by_unary : Unary → Meaning → Meaning
by_unary (unary.Prefix p) a = by_prefix p a
by_unary (unary.Call c) a = by_call c a
by_unary unary.Inverse a = expression (λ env. option_and_then (with_set (λ r. Some (set (sets.inverse r)))) (a.value env))
by_unary unary.Defined a = predicate (λ env. truth_of (is_value (a.value env)))
by_unary unary.Functional a = predicate (λ env. tested (option_and_then (with_set (λ r. Some (sets.is_functional r))) (a.value env)))
by_unary (unary.Part s) a = expression (λ env. option_and_then (part_of s) (a.value env))

-- what the operator to the right of a membership has: the pairs of members of the two, the relations between them, or the
-- members of its value
abbrev pub has_by : Operator → Env → Meaning → Meaning → Value → Bool
has_by o env a b v = if is_product o then is_pair_of env a b v
    else (if is_arrow o then (is_relation v && is_related o env a b (members v)) else has_value (with_two (value_by o) (a.value env) (b.value env)) v)

abbrev pub is_given_by : Operator → Env → Meaning → Meaning → Bool
is_given_by o env a b = if is_product o || is_arrow o then (a.is_given env && b.is_given env) else is_value (with_two (value_by o) (a.value env) (b.value env))

abbrev pub by_operator : Operator → Meaning → Meaning → Meaning
by_operator o a b = record {
  value = λ env. with_two (value_by o) (a.value env) (b.value env);
  truth = λ env. truth_by o env a b;
  is_given = λ env. is_given_by o env a b;
  has = λ env v. has_by o env a b v;
}

abbrev pub by_binary : Binary → Meaning → Meaning → Meaning
by_binary (binary.Operator o) a b = by_operator o a b
by_binary binary.Both p q = predicate (λ env. both (p.truth env) (q.truth env))
by_binary binary.If p s = expression (λ env. chosen (p.truth env) (s.value env))

abbrev pub by_many : Many → List Meaning → Meaning
by_many many.Extension es = expression (λ env. option_map (λ vs. set (sets.set_of vs)) (all_values (map (λ e. e.value env) es)))
by_many many.Partition es = predicate (λ env. tested (option_map is_partition (all_values (map (λ e. e.value env) es))))

-- what is made of the values of a range, where it is defined
abbrev pub over_range : {A : Type 0} → A → (List Value → A) → Option (List Value) → A
over_range undefined make None = undefined
over_range undefined make (Some vs) = make vs

-- a binder over values: each instance of the body has the value as that of its innermost binder
abbrev pub by_binder : Binder → (Env → Option (List Value)) → Meaning → Meaning
by_binder binder.ForAll range p = predicate (λ env. over_range Undefined (λ vs. for_all (map (λ v. p.truth (inside env v)) vs)) (range env))
by_binder binder.Exists range p = predicate (λ env. over_range Undefined (λ vs. exists (map (λ v. p.truth (inside env v)) vs)) (range env))
by_binder binder.Collect range s = expression (λ env. over_range None (λ vs. collected (map (λ v. s.value (inside env v)) vs)) (range env))

abbrev pub meaning_step : Scope → Head-F Meaning Meaning → Meaning
meaning_step scope (head.Truth b) = predicate (λ env. truth_of b)
meaning_step scope (head.Literal v ty) = expression (λ env. Some v)
meaning_step scope (head.Reference place ty) = expression (λ env. slot_at env.refs place)
meaning_step scope (head.Variable k path ty) = expression (λ env. variable_at env k path)
meaning_step scope (head.Infinite i) = form (λ env. true) (λ env v. infinite_has i v)
meaning_step scope (head.Identity ty) = expression (λ env. Some (set (sets.set_of (map (λ x. pair x x) (vals scope ty)))))
meaning_step scope (head.Projection s a b) = expression (λ env. Some (set (sets.set_of (flat_map (λ x. map (maplet_of_projection s x) (vals scope b)) (vals scope a)))))
meaning_step scope (head.Unary o a) = by_unary o a
meaning_step scope (head.Binary o a b) = by_binary o a b
meaning_step scope (head.Many o es) = by_many o es
meaning_step scope (head.Over o range body) = by_binder o (λ env. option_map members (range.value env)) body
meaning_step scope (head.All o ty body) = by_binder o (λ env. Some (vals scope ty)) body

abbrev pub meaning : Scope → Term → Meaning
meaning scope = by_parts Meaning (meaning_step scope)

-- the value of an expression, or none where it is Undefined
abbrev pub value_of : Scope → Env → Term → Slot
value_of scope env t = (meaning scope t).value env

-- the truth of a predicate
abbrev pub truth_in : Scope → Env → Term → Truth3
truth_in scope env t = (meaning scope t).truth env

-- whether a value is a member of what stands to the right of a membership
abbrev pub has_member : Scope → Env → Term → Value → Bool
has_member scope env t v = (meaning scope t).has env v
