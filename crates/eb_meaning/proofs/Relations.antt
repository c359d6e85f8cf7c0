-- Relations by the value of their left side.
use Rattle.std.proofs.Common.{◌≡◌, ◌⊎◌, inl, inr, ap, refl, option_and_then, Bool, true, false, ◌&&◌, not, if◌then◌else◌, [], ◌∷◌, Some, None, List, rules}
use Rattle.eb_syntax.specs.declared.ast.Operator.{Operator}
use Rattle.eb_syntax.specs.declared.ast.Operator.TheVariants as op
use Rattle.eb_value.specs.declared.value.Value.{Value}
use Rattle.eb_value.specs.Comprehensions.{members}
use Rattle.eb_operations.specs.declared.truth3.Truth3.TheVariants.{Undefined}
use Rattle.eb_meaning.specs.Truths.{tested, truth_of, negation}
use Rattle.eb_meaning.specs.Meaning as spec
use Rattle.eb_meaning.specs.Meaning.{Env, Meaning}
use Rattle.eb_meaning.specs.steps.Evaluating as step

also : (b : Bool) → truth_of b ≡ truth_of (b && true)
also true = refl
also false = refl

one_has : (g : Bool) (f : Value → Bool) (v : Value) → spec.where_given g f (Some v) ≡ tested (if g then Some (f v && true) else None)
one_has false f v = refl
one_has true f v = also (f v)

-- e : F
pub member_is : (env : Env) (a F : Meaning) (v : Value) → a.value env ≡ Some v → spec.member env a F ≡ tested (step.has_all F env (v ∷ []))
member_is env a F v e = rw e (one_has (F.is_given env) (F.has env) v)

all_have : (g : Bool) (f : Value → Bool) (v : Value) → spec.where_given g f (Some v) ≡ tested (if g then Some (f v) else None)
all_have false f v = refl
all_have true f v = refl

-- e <: F
pub subset_is : (env : Env) (a F : Meaning) (v : Value) → a.value env ≡ Some v → spec.subset env a F ≡ tested (step.has_all F env (members v))
subset_is env a F v e = rw e (all_have (F.is_given env) (spec.is_within env F) v)

within : (g : Bool) (f : Value → Bool) (v : Value) → spec.where_given g f (Some v) ≡ (if g then truth_of (f v) else Undefined)
within false f v = refl
within true f v = refl

-- e <<: F
pub proper_subset_is : (env : Env) (a F : Meaning) (v : Value) → a.value env ≡ Some v → spec.proper_subset env a F ≡ step.proper_subset env v F
proper_subset_is env a F v e = rw e (within (F.is_given env) (λ w. spec.is_within env F w && not (spec.is_value_of (F.value env) w)) v)

known : (g c b : Bool) → (if g then Some c else None) ≡ Some b → g ≡ true
known true c b e = refl
known false c b e = search rules

-- what is given
pub given_of : (F : Meaning) (env : Env) (vs : List Value) (b : Bool) → step.has_all F env vs ≡ Some b → F.is_given env ≡ true
given_of F env vs b e = known (F.is_given env) _ b e

abbrev pub IsRelation : Operator → Type 0
IsRelation o = (o ≡ op.Equal) ⊎ ((o ≡ op.Unequal) ⊎ ((o ≡ op.Less) ⊎ ((o ≡ op.AtMost) ⊎ ((o ≡ op.Greater) ⊎ ((o ≡ op.AtLeast) ⊎ ((o ≡ op.MemberOf) ⊎ ((o ≡ op.NotMemberOf) ⊎ ((o ≡ op.SubsetOf) ⊎ ((o ≡ op.NotSubsetOf) ⊎ ((o ≡ op.ProperSubsetOf) ⊎ (o ≡ op.NotProperSubsetOf)))))))))))

compared : (o : Operator) (env : Env) (a F : Meaning) (v : Value) → a.value env ≡ Some v → spec.compared o env a F ≡ tested (option_and_then (spec.test_by o v) (F.value env))
compared o env a F v e = rw e refl

-- a relation by the value of its left side
pub relation_is : (o : Operator) → IsRelation o → (env : Env) (a F : Meaning) (v : Value) → a.value env ≡ Some v
    → (spec.by_operator o a F).truth env ≡ step.relation o env v F
relation_is o (inl q) env a F v e = rw q (compared op.Equal env a F v e)
relation_is o (inr (inl q)) env a F v e = rw q (compared op.Unequal env a F v e)
relation_is o (inr (inr (inl q))) env a F v e = rw q (compared op.Less env a F v e)
relation_is o (inr (inr (inr (inl q)))) env a F v e = rw q (compared op.AtMost env a F v e)
relation_is o (inr (inr (inr (inr (inl q))))) env a F v e = rw q (compared op.Greater env a F v e)
relation_is o (inr (inr (inr (inr (inr (inl q)))))) env a F v e = rw q (compared op.AtLeast env a F v e)
relation_is o (inr (inr (inr (inr (inr (inr (inl q))))))) env a F v e = rw q (member_is env a F v e)
relation_is o (inr (inr (inr (inr (inr (inr (inr (inl q)))))))) env a F v e = rw q (ap negation (member_is env a F v e))
relation_is o (inr (inr (inr (inr (inr (inr (inr (inr (inl q))))))))) env a F v e = rw q (subset_is env a F v e)
relation_is o (inr (inr (inr (inr (inr (inr (inr (inr (inr (inl q)))))))))) env a F v e = rw q (ap negation (subset_is env a F v e))
relation_is o (inr (inr (inr (inr (inr (inr (inr (inr (inr (inr (inl q))))))))))) env a F v e = rw q (proper_subset_is env a F v e)
relation_is o (inr (inr (inr (inr (inr (inr (inr (inr (inr (inr (inr q))))))))))) env a F v e = rw q (ap negation (proper_subset_is env a F v e))
