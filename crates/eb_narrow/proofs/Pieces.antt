-- The meaning of what narrow terms are built of.
use Rattle.std.proofs.Common.{◌≡◌, ◌∙◌, Bool, true, false, ◌&&◌, List, [], ◌∷◌, ◌++◌, length, map, Some, None, option_map, option_and_then, refl, sym, ap, ap₂, rules}
use Rattle.std.specs.List.{list_all, slice_get}
use Rattle.eb_syntax.specs.declared.ast.Operator.{Operator}
use Rattle.eb_syntax.specs.declared.ast.Operator.TheVariants as op
use Rattle.eb_syntax.specs.declared.ast.Prefix.TheVariants as prefix
use Rattle.eb_value.specs.declared.scope.Scope.{Scope}
use Rattle.eb_value.specs.declared.types.EbType.{EbType}
use Rattle.eb_value.specs.declared.value.Value.{Value}
use Rattle.eb_value.specs.Comprehensions.{members}
use Rattle.eb_term.specs.declared.operators.Unary.TheVariants as unary
use Rattle.eb_term.specs.declared.operators.Binary.TheVariants as binary
use Rattle.eb_term.specs.declared.operators.Side.{Side}
use Rattle.eb_term.specs.declared.operators.Binder.TheVariants as binder
use Rattle.eb_term.specs.declared.term.Term.{Term}
use Rattle.eb_term.specs.declared.term.Head.{the_lemmas}
use Rattle.eb_term.specs.Terms as term
use Rattle.eb_value.specs.declared.value.Value as value_module
use Rattle.eb_operations.specs.declared.truth3.Truth3.{Truth3}
use Rattle.eb_operations.specs.declared.truth3.Truth3.TheVariants.{True, Undefined}
use Rattle.eb_meaning.specs.Truths as truths
use Rattle.eb_meaning.specs.Truths.{truth_of, tested, for_all, exists}
use Rattle.eb_meaning.specs.Meaning.{Slot, Env, meaning, value_of, truth_in, inside, with_two, test_by, value_by, truth_by, is_value, over_range, part_of}
use Rattle.narrow_terms.specs.Shifting.{shift}
use Rattle.narrow_terms.specs.Building.{operation, negation, both, equal, at_most, part, is_defined, whole, both_on, both_of, no_value}
use Rattle.eb_narrow.proofs.Hypotheses.{Laws}
use Rattle.eb_narrow.proofs.Shifts.{env_of, shifted, unary_is, binary_is, over_is, variable_is}
use Rattle.eb_narrow.proofs.Truths.{both_assoc, both_none, true_both, if_given}
use Rattle.eb_narrow.proofs.Views.{same_itself}

pub truth_operation : (scope : Scope) (env : Env) (o : Operator) (a b : Term) → truth_in scope env (operation o a b) ≡ truth_by o env (meaning scope a) (meaning scope b)
truth_operation scope env o a b = ap (λ m. m.truth env) (binary_is scope (binary.Operator o) a b)

pub value_operation : (scope : Scope) (env : Env) (o : Operator) (a b : Term) → value_of scope env (operation o a b) ≡ with_two (value_by o) (value_of scope env a) (value_of scope env b)
value_operation scope env o a b = ap (λ m. m.value env) (binary_is scope (binary.Operator o) a b)

pub truth_not : (scope : Scope) (env : Env) (p : Term) → truth_in scope env (negation p) ≡ truths.negation (truth_in scope env p)
truth_not scope env p = ap (λ m. m.truth env) (unary_is scope (unary.Prefix prefix.Not) p)

pub truth_both : (scope : Scope) (env : Env) (p q : Term) → truth_in scope env (both p q) ≡ truths.both (truth_in scope env p) (truth_in scope env q)
truth_both scope env p q = ap (λ m. m.truth env) (binary_is scope binary.Both p q)

pub truth_equal : (scope : Scope) (env : Env) (a b : Term) → truth_in scope env (equal a b) ≡ tested (with_two (test_by op.Equal) (value_of scope env a) (value_of scope env b))
truth_equal scope env a b = truth_operation scope env op.Equal a b

pub truth_at_most : (scope : Scope) (env : Env) (a b : Term) → truth_in scope env (at_most a b) ≡ tested (with_two (test_by op.AtMost) (value_of scope env a) (value_of scope env b))
truth_at_most scope env a b = truth_operation scope env op.AtMost a b

pub value_part : (scope : Scope) (env : Env) (s : Side) (e : Term) → value_of scope env (part s e) ≡ option_and_then (part_of s) (value_of scope env e)
value_part scope env s e = ap (λ m. m.value env) (unary_is scope (unary.Part s) e)

pub truth_true : (scope : Scope) (env : Env) → truth_in scope env (term.truth true) ≡ True
truth_true scope env = search (rules, the_lemmas)

pub value_literal : (scope : Scope) (env : Env) (v : Value) (t : EbType) → value_of scope env (term.literal v t) ≡ Some v
value_literal scope env v t = search (rules, the_lemmas)

pub value_no_value : (scope : Scope) (env : Env) (t : EbType) → value_of scope env (no_value t) ≡ None
value_no_value scope env t = search (rules, the_lemmas, value_module.the_lemmas)

pub truth_exists : (scope : Scope) (env : Env) (e p : Term)
    → truth_in scope env (term.over binder.Exists e p) ≡ over_range Undefined (λ vs. exists (map (λ v. truth_in scope (inside env v) p) vs)) (option_map members (value_of scope env e))
truth_exists scope env e p = ap (λ m. m.truth env) (over_is scope binder.Exists e p)

-- ---- the innermost variable

at_end : (vs : List Value) (v : Value) → slice_get (vs ++ v ∷ []) (length vs) ≡ Some v
at_end [] v = refl
at_end (w ∷ vs) v = at_end vs v

pub value_whole : (scope : Scope) (refs : List Slot) (vs : List Value) (v : Value) (t : EbType) → value_of scope (env_of refs (vs ++ v ∷ [])) (whole (length vs) t) ≡ Some v
value_whole scope refs vs v t = ap (λ m. m.value (env_of refs (vs ++ v ∷ []))) (variable_is scope (length vs) [] t) ∙ last (slice_get (vs ++ v ∷ []) (length vs)) (at_end vs v)
  where
    last : (o : Slot) → o ≡ Some v → option_and_then (λ w. Some w) o ≡ Some v
    last o e = rw e refl

-- ---- each of a list

both_on_truth : (scope : Scope) (env : Env) (p : Term) (qs : List Term) → truth_in scope env (both_on p qs) ≡ truths.both (truth_in scope env p) (for_all (map (truth_in scope env) qs))
both_on_truth scope env p [] = sym (both_none (truth_in scope env p))
both_on_truth scope env p (q ∷ qs) =
    both_on_truth scope env (both p q) qs ∙ (ap (λ x. truths.both x (for_all (map (truth_in scope env) qs))) (truth_both scope env p q)
    ∙ both_assoc (truth_in scope env p) (truth_in scope env q) (for_all (map (truth_in scope env) qs)))

pub truth_both_on : (scope : Scope) (env : Env) (p : Term) (qs : List Term) → truth_in scope env (both_on p qs) ≡ for_all (map (truth_in scope env) (p ∷ qs))
truth_both_on = both_on_truth

pub truth_both_of : (scope : Scope) (env : Env) (ps : List Term) → truth_in scope env (both_of ps) ≡ for_all (map (truth_in scope env) ps)
truth_both_of scope env [] = truth_true scope env
truth_both_of scope env (p ∷ ps) = both_on_truth scope env p ps

-- ---- what is defined

defined_if : Laws → (a : Slot) → tested (with_two (test_by op.Equal) a a) ≡ if_given (is_value a) True
defined_if laws None = refl
defined_if laws (Some v) = ap truth_of (same_itself laws v)

pub truth_is_defined : Laws → (scope : Scope) (env : Env) (e : Term) → truth_in scope env (is_defined e) ≡ if_given (is_value (value_of scope env e)) True
truth_is_defined laws scope env e = truth_equal scope env e e ∙ defined_if laws (value_of scope env e)

pub value_shifted : (scope : Scope) (refs : List Slot) (bound more : List Value) (t : Term) → value_of scope (env_of refs (bound ++ more)) (shift (length bound) (length more) t) ≡ value_of scope (env_of refs bound) t
value_shifted scope refs bound more t = ap (λ s. s.value) (shifted scope refs bound more t)

given_first : (b c : Bool) (p : Truth3) → truths.both (if_given b True) (if_given c p) ≡ if_given (b && c) p
given_first true true p = true_both p
given_first true false p = refl
given_first false c p = refl

pub values_given : (laws : Laws) (scope : Scope) (refs : List Slot) (bound more : List Value) (vs ps : List Term)
    → for_all (map (truth_in scope (env_of refs (bound ++ more))) (map (λ v. is_defined (shift (length bound) (length more) v)) vs ++ ps))
    ≡ if_given (list_all is_value (map (value_of scope (env_of refs bound)) vs)) (for_all (map (truth_in scope (env_of refs (bound ++ more))) ps))
values_given laws scope refs bound more [] ps = refl
values_given laws scope refs bound more (v ∷ vs) ps =
    ap₂ truths.both (truth_is_defined laws scope (env_of refs (bound ++ more)) (shift (length bound) (length more) v) ∙ ap (λ a. if_given (is_value a) True) (value_shifted scope refs bound more v))
    (values_given laws scope refs bound more vs ps)
    ∙ given_first (is_value (value_of scope (env_of refs bound) v)) (list_all is_value (map (value_of scope (env_of refs bound)) vs)) (for_all (map (truth_in scope (env_of refs (bound ++ more))) ps))
