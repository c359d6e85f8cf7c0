-- What terms mean at the constructors, and the truth of what well-definedness is made of.
use Rattle.std.proofs.Common.{◌≡◌, ◌&&◌, Bool, true, List, map, Some, option_map, rules}
use Rattle.eb_value.specs.declared.scope.Scope.{Scope}
use Rattle.eb_value.specs.declared.types.EbType.{EbType}
use Rattle.eb_value.specs.Scopes.{vals}
use Rattle.eb_value.specs.Comprehensions as sets
use Rattle.eb_term.specs.declared.operators.Unary.{Unary}
use Rattle.eb_term.specs.declared.operators.Binary.{Binary}
use Rattle.eb_term.specs.declared.operators.Many.{Many}
use Rattle.eb_term.specs.declared.operators.Binder.{Binder}
use Rattle.eb_term.specs.declared.operators.Binder.TheVariants as binder
use Rattle.eb_term.specs.declared.term.Term.{Term, the_lemmas}
use Rattle.eb_term.specs.Terms as term
use Rattle.eb_operations.specs.declared.truth3.Truth3.TheVariants.{True, Undefined}
use Rattle.eb_meaning.specs.Truths as truths
use Rattle.eb_meaning.specs.Truths.{truth_of, for_all}
use Rattle.eb_meaning.specs.Meaning.{Slot, Env, meaning, value_of, truth_in, inside, is_value, by_unary, by_binary, by_many, by_binder, over_range}
use Rattle.eb_meaning.specs.Fitting.{fits}
use Rattle.narrow_terms.specs.Building.{conjunction}
use Rattle.eb_wd.specs.WellDefined as wd

pub meaning-unary : (scope : Scope) (o : Unary) (a : Term) → meaning scope (term.unary o a) ≡ by_unary o (meaning scope a)
meaning-unary scope o a = search (rules, the_lemmas)

pub meaning-binary : (scope : Scope) (o : Binary) (a b : Term) → meaning scope (term.binary o a b) ≡ by_binary o (meaning scope a) (meaning scope b)
meaning-binary scope o a b = search (rules, the_lemmas)

pub meaning-many : (scope : Scope) (o : Many) (es : List Term) → meaning scope (term.many o es) ≡ by_many o (map (meaning scope) es)
meaning-many scope o es = search (rules, the_lemmas)

pub meaning-over : (scope : Scope) (o : Binder) (range body : Term) → meaning scope (term.over o range body) ≡ by_binder o (λ env. option_map sets.members (value_of scope env range)) (meaning scope body)
meaning-over scope o range body = search (rules, the_lemmas)

pub meaning-all : (scope : Scope) (o : Binder) (t : EbType) (body : Term) → meaning scope (term.all o t body) ≡ by_binder o (λ env. Some (vals scope t)) (meaning scope body)
meaning-all scope o t body = search (rules, the_lemmas)

-- ---- whether the parts fit

pub fits-unary : (scope : Scope) (refs : List Slot) (o : Unary) (a : Term) → fits scope refs (term.unary o a) ≡ fits scope refs a
fits-unary scope refs o a = search (rules, the_lemmas)

pub fits-binary : (scope : Scope) (refs : List Slot) (o : Binary) (a b : Term) → fits scope refs (term.binary o a b) ≡ (fits scope refs a && fits scope refs b)
fits-binary scope refs o a b = search (rules, the_lemmas)

pub fits-over : (scope : Scope) (refs : List Slot) (o : Binder) (range body : Term) → fits scope refs (term.over o range body) ≡ (fits scope refs range && fits scope refs body)
fits-over scope refs o range body = search (rules, the_lemmas)

pub fits-all : (scope : Scope) (refs : List Slot) (o : Binder) (t : EbType) (body : Term) → fits scope refs (term.all o t body) ≡ fits scope refs body
fits-all scope refs o t body = search (rules, the_lemmas)

-- ---- truths

abbrev pub has_value_in : Scope → Env → Term → Bool
has_value_in scope env t = is_value (value_of scope env t)

pub truth-truth : (scope : Scope) (env : Env) → truth_in scope env (term.truth true) ≡ True
truth-truth scope env = search (rules, the_lemmas)

pub truth-defined : (scope : Scope) (env : Env) (t : Term) → truth_in scope env (wd.is_defined t) ≡ truth_of (has_value_in scope env t)
truth-defined scope env t = search (rules, the_lemmas)

pub truth-conjunction : (scope : Scope) (env : Env) (p q : Term) → truth_in scope env (conjunction p q) ≡ truths.conjunction (truth_in scope env p) (truth_in scope env q)
truth-conjunction scope env p q = search (rules, the_lemmas)

pub truth-implication : (scope : Scope) (env : Env) (p q : Term) → truth_in scope env (wd.implication p q) ≡ truths.implication (truth_in scope env p) (truth_in scope env q)
truth-implication scope env p q = search (rules, the_lemmas)

pub truth-disjunction : (scope : Scope) (env : Env) (p q : Term) → truth_in scope env (wd.disjunction p q) ≡ truths.disjunction (truth_in scope env p) (truth_in scope env q)
truth-disjunction scope env p q = search (rules, the_lemmas)

pub truth-for_all_over : (scope : Scope) (env : Env) (s p : Term)
    → truth_in scope env (term.over binder.ForAll s p) ≡ over_range Undefined (λ vs. for_all (map (λ v. truth_in scope (inside env v) p) vs)) (option_map sets.members (value_of scope env s))
truth-for_all_over scope env s p = search (rules, the_lemmas)

pub truth-for_all : (scope : Scope) (env : Env) (t : EbType) (p : Term) → truth_in scope env (term.all binder.ForAll t p) ≡ for_all (map (λ v. truth_in scope (inside env v) p) (vals scope t))
truth-for_all scope env t p = search (rules, the_lemmas)
