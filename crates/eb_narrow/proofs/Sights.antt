-- What a meaning is in one environment. An operator looks at its parts in that environment alone; a binder looks at its body in
-- the environments inside it.
use Rattle.std.proofs.Common.{◌≡◌, refl, sym, ap, ap₂, ◌∙◌, Bool, false, List, map, Option, None, option_map}
use Rattle.std.proofs.Math.Path.{fun_ext}
use Rattle.eb_syntax.specs.declared.ast.Operator.{Operator}
use Rattle.eb_syntax.specs.declared.ast.Operator.TheVariants as op
use Rattle.eb_syntax.specs.declared.ast.Prefix.TheVariants as prefix
use Rattle.eb_syntax.specs.declared.ast.Call.{Call}
use Rattle.eb_syntax.specs.declared.ast.Call.TheVariants as call
use Rattle.eb_value.specs.declared.value.Value.{Value}
use Rattle.eb_value.specs.Comprehensions as sets
use Rattle.eb_value.specs.Values.{set}
use Rattle.eb_term.specs.declared.operators.Unary.{Unary}
use Rattle.eb_term.specs.declared.operators.Unary.TheVariants as unary
use Rattle.eb_term.specs.declared.operators.Binary.{Binary}
use Rattle.eb_term.specs.declared.operators.Binary.TheVariants as binary
use Rattle.eb_term.specs.declared.operators.Many.{Many}
use Rattle.eb_term.specs.declared.operators.Many.TheVariants as many
use Rattle.eb_term.specs.declared.operators.Binder.{Binder}
use Rattle.eb_term.specs.declared.operators.Binder.TheVariants as binder
use Rattle.eb_operations.specs.declared.truth3.Truth3.{Truth3}
use Rattle.eb_operations.specs.declared.truth3.Truth3.TheVariants.{Undefined}
use Rattle.eb_meaning.specs.Truths.{tested, for_all, exists}
use Rattle.eb_meaning.specs.Meaning.{Slot, Env, Meaning, inside, by_call, by_unary, by_operator, by_binary, by_many, by_binder, over_range, collected, all_values, is_partition, is_value, has_value}

-- what a meaning is in one environment
pub record Sight : Type 0 where
  pub value : Slot
  pub truth : Truth3
  pub is_given : Bool
  pub has : Value → Bool

abbrev pub seen : Env → Meaning → Sight
seen env m = record { value = m.value env; truth = m.truth env; is_given = m.is_given env; has = m.has env }

-- the meaning that is the same in every environment
abbrev pub fixed : Sight → Meaning
fixed s = record { value = λ env. s.value; truth = λ env. s.truth; is_given = λ env. s.is_given; has = λ env v. s.has v }

-- the sight of an expression with this value, and of a predicate with this truth
abbrev pub of_value : Slot → Sight
of_value o = record { value = o; truth = Undefined; is_given = is_value o; has = λ v. has_value o v }

abbrev pub of_truth : Truth3 → Sight
of_truth t = record { value = None; truth = t; is_given = false; has = λ v. false }

call_seen : (c : Call) (a : Meaning) (env any : Env) → seen env (by_call c a) ≡ seen any (by_call c (fixed (seen env a)))
call_seen call.PowerSet a env any = refl
call_seen call.NonemptyPowerSet a env any = refl
call_seen call.BoolOf a env any = refl
call_seen call.Finite a env any = refl
call_seen _ a env any = refl

unary_seen : (o : Unary) (a : Meaning) (env any : Env) → seen env (by_unary o a) ≡ seen any (by_unary o (fixed (seen env a)))
unary_seen (unary.Prefix prefix.Not) a env any = refl
unary_seen (unary.Prefix prefix.Minus) a env any = refl
unary_seen (unary.Call c) a env any = call_seen c a env any
unary_seen unary.Inverse a env any = refl
unary_seen unary.Defined a env any = refl
unary_seen unary.Functional a env any = refl
unary_seen (unary.Part s) a env any = refl

operator_seen : (o : Operator) (a b : Meaning) (env any : Env) → seen env (by_operator o a b) ≡ seen any (by_operator o (fixed (seen env a)) (fixed (seen env b)))
operator_seen op.Product a b env any = refl
operator_seen _ a b env any = refl

binary_seen : (o : Binary) (a b : Meaning) (env any : Env) → seen env (by_binary o a b) ≡ seen any (by_binary o (fixed (seen env a)) (fixed (seen env b)))
binary_seen (binary.Operator o) a b env any = operator_seen o a b env any
binary_seen binary.Both a b env any = refl
binary_seen binary.If a b env any = refl

pub unary_alike : (o : Unary) (a b : Meaning) (one other : Env) → seen one a ≡ seen other b → seen one (by_unary o a) ≡ seen other (by_unary o b)
unary_alike o a b one other e = unary_seen o a one other ∙ (ap (λ s. seen other (by_unary o (fixed s))) e ∙ sym (unary_seen o b other other))

pub binary_alike : (o : Binary) (a b c d : Meaning) (one other : Env) → seen one a ≡ seen other c → seen one b ≡ seen other d
    → seen one (by_binary o a b) ≡ seen other (by_binary o c d)
binary_alike o a b c d one other e f =
    binary_seen o a b one other ∙ (ap₂ (λ s t. seen other (by_binary o (fixed s) (fixed t))) e f ∙ sym (binary_seen o c d other other))

pub many_alike : (o : Many) (es fs : List Meaning) (one other : Env) → map (λ e. e.value one) es ≡ map (λ e. e.value other) fs
    → seen one (by_many o es) ≡ seen other (by_many o fs)
many_alike many.Extension es fs one other e = ap (λ slots. of_value (option_map (λ vs. set (sets.set_of vs)) (all_values slots))) e
many_alike many.Partition es fs one other e = ap (λ slots. of_truth (tested (option_map is_partition (all_values slots)))) e

pub binder_alike : (o : Binder) (range : Env → Option (List Value)) (ranges : Env → Option (List Value)) (body other_body : Meaning) (one other : Env) → range one ≡ ranges other
    → ((v : Value) → seen (inside one v) body ≡ seen (inside other v) other_body)
    → seen one (by_binder o range body) ≡ seen other (by_binder o ranges other_body)
binder_alike binder.ForAll range ranges body other_body one other e f =
    ap₂ (λ r g. of_truth (over_range Undefined (λ vs. for_all (map g vs)) r)) e (fun_ext (λ v. ap (λ s. s.truth) (f v)))
binder_alike binder.Exists range ranges body other_body one other e f =
    ap₂ (λ r g. of_truth (over_range Undefined (λ vs. exists (map g vs)) r)) e (fun_ext (λ v. ap (λ s. s.truth) (f v)))
binder_alike binder.Collect range ranges body other_body one other e f =
    ap₂ (λ r g. of_value (over_range None (λ vs. collected (map g vs)) r)) e (fun_ext (λ v. ap (λ s. s.value) (f v)))
