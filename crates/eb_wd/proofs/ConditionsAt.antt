-- The conditions of terms at the constructors. The term that they keep is the term itself.
use Rattle.std.proofs.Common.{◌≡◌, ◌∙◌, ℕ, Bool, true, false, if◌then◌else◌, ◌||◌, List, [], ◌∷◌, ◌++◌, map, refl, ap, ap₂, rules}
use Rattle.std.specs.List.{AllByRecursion}
use Rattle.eb_syntax.specs.declared.ast.Operator.{Operator}
use Rattle.eb_syntax.specs.declared.ast.Operator.TheVariants as op
use Rattle.eb_syntax.specs.declared.ast.Prefix.TheVariants as prefix
use Rattle.eb_syntax.specs.declared.ast.Call.{Call}
use Rattle.eb_syntax.specs.declared.ast.Call.TheVariants as call
use Rattle.eb_value.specs.declared.types.EbType.{EbType}
use Rattle.eb_value.specs.declared.value.Value.{Value}
use Rattle.eb_term.specs.declared.operators.Unary.{Unary}
use Rattle.eb_term.specs.declared.operators.Unary.TheVariants as unary
use Rattle.eb_term.specs.declared.operators.Binary.{Binary}
use Rattle.eb_term.specs.declared.operators.Binary.TheVariants as binary
use Rattle.eb_term.specs.declared.operators.Many.{Many}
use Rattle.eb_term.specs.declared.operators.Many.TheVariants as many
use Rattle.eb_term.specs.declared.operators.Binder.{Binder}
use Rattle.eb_term.specs.declared.operators.Binder.TheVariants as binder
use Rattle.eb_term.specs.declared.operators.Infinite.{Infinite}
use Rattle.eb_term.specs.declared.operators.Side.{Side}
use Rattle.eb_term.specs.declared.term.Term.{Term, the_lemmas}
use Rattle.eb_term.specs.Terms as term
use Rattle.eb_term.specs.Terms.{by_parts}
use Rattle.narrow_terms.specs.Building.{operation}
use Rattle.eb_wd.specs.WellDefined.{Conditions, wd_step}
use Rattle.eb_wd.specs.WellDefined as wd
use Rattle.eb_wd.proofs.TermInduction.{ind_term}

abbrev pub conditions : Term → Conditions
conditions = by_parts Conditions wd_step

pub conditions-truth : (b : Bool) → conditions (term.truth b) ≡ wd.predicate (term.truth b) (term.truth true)
conditions-truth b = search (rules, the_lemmas)

pub conditions-literal : (v : Value) (t : EbType) → conditions (term.literal v t) ≡ wd.expression (term.literal v t)
conditions-literal v t = search (rules, the_lemmas)

pub conditions-reference : (place : ℕ) (t : EbType) → conditions (term.reference place t) ≡ wd.expression (term.reference place t)
conditions-reference place t = search (rules, the_lemmas)

pub conditions-variable : (k : ℕ) (path : List Side) (t : EbType) → conditions (term.variable k path t) ≡ wd.expression (term.variable k path t)
conditions-variable k path t = search (rules, the_lemmas)

pub conditions-infinite : (i : Infinite) → conditions (term.infinite i) ≡ wd.form (term.infinite i) []
conditions-infinite i = search (rules, the_lemmas)

pub conditions-identity : (t : EbType) → conditions (term.identity t) ≡ wd.expression (term.identity t)
conditions-identity t = search (rules, the_lemmas)

pub conditions-projection : (s : Side) (a b : EbType) → conditions (term.projection s a b) ≡ wd.expression (term.projection s a b)
conditions-projection s a b = search (rules, the_lemmas)

pub conditions-unary : (o : Unary) (a : Term) → conditions (term.unary o a) ≡ wd.by_unary o (conditions a)
conditions-unary o a = search (rules, the_lemmas)

pub conditions-binary : (o : Binary) (a b : Term) → conditions (term.binary o a b) ≡ wd.by_binary o (conditions a) (conditions b)
conditions-binary o a b = search (rules, the_lemmas)

pub conditions-many : (o : Many) (es : List Term) → conditions (term.many o es) ≡ wd.by_many o (map conditions es)
conditions-many o es = search (rules, the_lemmas)

over_of_kept : (o : Binder) (s body : Term) → conditions (term.over o s body) ≡ wd.over o (conditions s).term (conditions body)
over_of_kept o s body = search (rules, the_lemmas)

pub conditions-all : (o : Binder) (t : EbType) (body : Term) → conditions (term.all o t body) ≡ wd.all o t (conditions body)
conditions-all o t body = search (rules, the_lemmas)

-- ---- the term that is kept

call_kept : (o : Call) (k : Conditions) → (wd.by_unary (unary.Call o) k).term ≡ term.unary (unary.Call o) k.term
call_kept call.Finite k = refl
call_kept call.PowerSet k = refl
call_kept call.NonemptyPowerSet k = refl
call_kept _ k = refl

unary_kept : (o : Unary) (k : Conditions) → (wd.by_unary o k).term ≡ term.unary o k.term
unary_kept (unary.Prefix prefix.Not) k = refl
unary_kept (unary.Prefix prefix.Minus) k = refl
unary_kept (unary.Call o) k = call_kept o k
unary_kept unary.Inverse k = refl
unary_kept unary.Defined k = refl
unary_kept unary.Functional k = refl
unary_kept (unary.Part s) k = refl

either_kept : (b : Bool) (t : Term) (values : List Term) → (if b then wd.form t values else wd.expression t).term ≡ t
either_kept true t values = refl
either_kept false t values = refl

operator_kept : (o : Operator) (k l : Conditions) → (wd.by_operator o k l).term ≡ operation o k.term l.term
operator_kept op.Product k l = either_kept (k.is_form || l.is_form) (operation op.Product k.term l.term) (k.values ++ l.values)
operator_kept _ k l = refl

binary_kept : (o : Binary) (k l : Conditions) → (wd.by_binary o k l).term ≡ term.binary o k.term l.term
binary_kept (binary.Operator o) k l = operator_kept o k l
binary_kept binary.Both k l = refl
binary_kept binary.If k l = refl

many_kept : (o : Many) (ks : List Conditions) → (wd.by_many o ks).term ≡ term.many o (map (λ k. k.term) ks)
many_kept many.Extension ks = refl
many_kept many.Partition ks = refl

over_kept : (o : Binder) (s : Term) (k : Conditions) → (wd.over o s k).term ≡ term.over o s k.term
over_kept binder.ForAll s k = refl
over_kept binder.Exists s k = refl
over_kept binder.Collect s k = refl

all_kept : (o : Binder) (t : EbType) (k : Conditions) → (wd.all o t k).term ≡ term.all o t k.term
all_kept binder.ForAll t k = refl
all_kept binder.Exists t k = refl
all_kept binder.Collect t k = refl

abbrev IsKept : Term → Type 0
IsKept t = (conditions t).term ≡ t

are_kept : (ts : List Term) → AllByRecursion IsKept ts → map (λ k. k.term) (map conditions ts) ≡ ts
are_kept [] h = refl
are_kept (t ∷ ts) h = ap₂ (λ x xs. x ∷ xs) h.0 (are_kept ts h.1)

-- the term of the conditions of a term
pub kept : (t : Term) → (conditions t).term ≡ t
kept = ind_term IsKept (record {
  truth = λ b. ap (λ k. k.term) (conditions-truth b);
  literal = λ v t. ap (λ k. k.term) (conditions-literal v t);
  reference = λ place t. ap (λ k. k.term) (conditions-reference place t);
  variable = λ k path t. ap (λ k. k.term) (conditions-variable k path t);
  infinite = λ i. ap (λ k. k.term) (conditions-infinite i);
  identity = λ t. ap (λ k. k.term) (conditions-identity t);
  projection = λ s a b. ap (λ k. k.term) (conditions-projection s a b);
  unary = λ o a p. ap (λ k. k.term) (conditions-unary o a) ∙ unary_kept o (conditions a) ∙ ap (term.unary o) p;
  binary = λ o a b p q. ap (λ k. k.term) (conditions-binary o a b) ∙ binary_kept o (conditions a) (conditions b) ∙ ap₂ (term.binary o) p q;
  many = λ o ts p. ap (λ k. k.term) (conditions-many o ts) ∙ many_kept o (map conditions ts) ∙ ap (term.many o) (are_kept ts p);
  over = λ o s body p q. ap (λ k. k.term) (over_of_kept o s body) ∙ over_kept o (conditions s).term (conditions body) ∙ ap₂ (term.over o) p q;
  all = λ o t body p. ap (λ k. k.term) (conditions-all o t body) ∙ all_kept o t (conditions body) ∙ ap (term.all o t) p;
})

pub all_terms_kept : (ts : List Term) → map (λ k. k.term) (map conditions ts) ≡ ts
all_terms_kept [] = refl
all_terms_kept (t ∷ ts) = ap₂ (λ x xs. x ∷ xs) (kept t) (all_terms_kept ts)

pub conditions-over : (o : Binder) (s body : Term) → conditions (term.over o s body) ≡ wd.over o s (conditions body)
conditions-over o s body = over_of_kept o s body ∙ ap (λ z. wd.over o z (conditions body)) (kept s)
