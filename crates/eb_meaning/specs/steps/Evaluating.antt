-- The meaning in the steps of the evaluator.
use Rattle.std.specs.Prelude.{◌≡◌, Bool, not, ◌&&◌, [], ◌∷◌, option_and_then, if◌then◌else◌, List, Option, Some, None, option_map}
use Rattle.std.specs.List.{list_all}
use Rattle.eb_value.specs.declared.value.Value.{Value}
use Rattle.eb_value.specs.Comprehensions as sets
use Rattle.eb_value.specs.Comprehensions.{members}
use Rattle.eb_syntax.specs.declared.ast.Operator.{Operator}
use Rattle.eb_term.specs.declared.term.Term.{Term}
use Rattle.eb_term.specs.declared.term.Head.TheOpen as head
use Rattle.eb_term.specs.Terms.{Layer, layer}
use Rattle.eb_syntax.specs.declared.ast.Operator.TheVariants as op
use Rattle.eb_term.specs.declared.operators.Side.{Side}
use Rattle.eb_operations.specs.declared.truth3.Truth3.{Truth3}
use Rattle.eb_operations.specs.declared.truth3.Truth3.TheVariants.{Undefined}
use Rattle.eb_operations.specs.Truths.{truth_of, tested, negation}
use Rattle.eb_operations.specs.Operations.{set_of_side}
use Rattle.eb_operations.specs.Tests.{is_power, is_whole}
use Rattle.eb_meaning.specs.Meaning.{Slot, Env, Meaning, slot_at, variable_at, test_by, is_within, is_value_of, is_value, has_value, covers}

-- whether what stands to the right of a membership has each of the values, where it is given
abbrev pub has_all : Meaning → Env → List Value → Option Bool
has_all F env vs = if F.is_given env then Some (list_all (F.has env) vs) else None

-- the same of the members of a value
abbrev pub value_has_all : Slot → List Value → Option Bool
value_has_all slot vs = option_map (λ s. list_all (sets.has (sets.members s)) vs) slot

abbrev pub leaf_in : Env → Layer → Slot
leaf_in env (head.Literal v ty) = Some v
leaf_in env (head.Reference place ty) = slot_at env.refs place
leaf_in env (head.Variable k path ty) = variable_at env k path
leaf_in env _ = None

-- the value of a literal, a reference or a variable
abbrev pub leaf_value : Env → Term → Slot
leaf_value env t = leaf_in env (layer t)

-- POW(F), and POW1(F) where the empty set is no member
abbrev pub powers_have_all : Bool → Meaning → Env → List Value → Option Bool
powers_have_all without_empty F env vs = if F.is_given env then Some (list_all (λ v. is_power without_empty v && is_within env F v) vs) else None

-- two tests of what is given, and one besides
abbrev pub both_given : Option Bool → Option Bool → Bool → Option Bool
both_given None q test = None
both_given (Some p) None test = None
both_given (Some p) (Some q) test = Some (test && (p && q))

-- e <<: F, by the value of e
abbrev pub proper_subset : Env → Value → Meaning → Truth3
proper_subset env v F = if F.is_given env then truth_of (is_within env F v && not (is_value_of (F.value env) v)) else Undefined

-- a relation by the value of its left side
abbrev pub relation : Operator → Env → Value → Meaning → Truth3
relation op.MemberOf env v F = tested (has_all F env (v ∷ []))
relation op.NotMemberOf env v F = negation (tested (has_all F env (v ∷ [])))
relation op.SubsetOf env v F = tested (has_all F env (members v))
relation op.NotSubsetOf env v F = negation (tested (has_all F env (members v)))
relation op.ProperSubsetOf env v F = proper_subset env v F
relation op.NotProperSubsetOf env v F = negation (proper_subset env v F)
relation o env v F = tested (option_and_then (test_by o v) (F.value env))

-- an expression has the members of its value, and what is neither expression nor form has none
pub record IsPlain (m : Meaning) : Type 0 where
  pub given : (env : Env) → m.is_given env ≡ is_value (m.value env)
  pub members : (env : Env) (v : Value) → m.has env v ≡ has_value (m.value env) v

-- each of the relations has the side that the arrow asks
abbrev pub side_covered : Operator → Side → Meaning → Env → List Value → Option Bool
side_covered arrow s F env vs = if F.is_given env then Some (list_all (λ v. covers (is_whole s arrow) env F (set_of_side s v)) vs) else None
