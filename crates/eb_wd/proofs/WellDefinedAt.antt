-- What is written for a term by its head, with the parts that it has in place of those that are kept.
use Rattle.std.proofs.Common.{◌≡◌, ◌∙◌, Bool, true, false, ◌||◌, if◌then◌else◌, List, [], ◌∷◌, ◌++◌, map, Result, IfOk, refl, sym, ap, ap₂, subst, rules}
use Rattle.eb_syntax.specs.declared.ast.Operator.{Operator}
use Rattle.eb_syntax.specs.declared.ast.Operator.TheVariants as op
use Rattle.eb_syntax.specs.declared.ast.Call.{Call}
use Rattle.eb_syntax.specs.declared.ast.Call.TheVariants as call
use Rattle.eb_value.specs.declared.types.EbType.{EbType}
use Rattle.eb_term.specs.declared.operators.Unary.{Unary}
use Rattle.eb_term.specs.declared.operators.Unary.TheVariants as unary
use Rattle.eb_term.specs.declared.operators.Binary.{Binary}
use Rattle.eb_term.specs.declared.operators.Binary.TheVariants as binary
use Rattle.eb_term.specs.declared.operators.Many.{Many}
use Rattle.eb_term.specs.declared.operators.Many.TheVariants as many
use Rattle.eb_term.specs.declared.operators.Binder.{Binder}
use Rattle.eb_term.specs.declared.operators.Binder.TheVariants as binder
use Rattle.eb_term.specs.declared.term.Term.{Term, fold_out-Term}
use Rattle.eb_term.specs.declared.term.Head.{the_lemmas}
use Rattle.eb_term.specs.declared.term.Head.TheVariants as head
use Rattle.eb_term.specs.Terms as term
use Rattle.narrow_terms.specs.Building.{operation, conjunction}
use Rattle.eb_wd.specs.WellDefined.{Conditions}
use Rattle.operator_kinds.specs.Operators as kind
use Rattle.eb_wd.specs.WellDefined as wd
use Rattle.eb_wd.proofs.ConditionsAt.{conditions, kept, all_terms_kept}

-- a result that is this term is that term
pub becomes : {E : Type 0} (r : Result Term E) (a b : Term) → a ≡ b → IfOk r (λ t. t ≡ a) → IfOk r (λ t. t ≡ b)
becomes r a b e h = subst (λ z. IfOk r (λ t. t ≡ z)) e h

pub at-unary : (t a : Term) (o : Unary) → t.head ≡ head.Unary o a → conditions t ≡ wd.by_unary o (conditions a)
at-unary t a o p = search (rules, fold_out-Term, the_lemmas, p)

pub at-operator : (t a b : Term) (x : Binary) (o : Operator) → t.head ≡ head.Binary x a b → x ≡ binary.Operator o → conditions t ≡ wd.by_operator o (conditions a) (conditions b)
at-operator t a b x o p q = search (rules, fold_out-Term, the_lemmas, p, q)

at-partition : (t : Term) (ts : List Term) (o : Many) → t.head ≡ head.Many o ts → o ≡ many.Partition → (conditions t).wd ≡ wd.all_defined (map (λ k. k.term) (map conditions ts))
at-partition t ts o p q = search (rules, fold_out-Term, the_lemmas, p, q)

at-over : (t s body : Term) (o : Binder) → t.head ≡ head.Over o s body → conditions t ≡ wd.over o (conditions s).term (conditions body)
at-over t s body o p = search (rules, fold_out-Term, the_lemmas, p)

pub finite : (t a : Term) (o : Unary) (c : Call) → t.head ≡ head.Unary o a → o ≡ unary.Call c → c ≡ call.Finite → wd.is_defined a ≡ (conditions t).wd
finite t a o c p q r = sym (ap (λ k. k.wd) (at-unary t a o p ∙ ap (λ z. wd.by_unary z (conditions a)) (q ∙ ap unary.Call r)) ∙ ap wd.is_defined (kept a))

pub functional : (t a : Term) (o : Unary) → t.head ≡ head.Unary o a → o ≡ unary.Functional → wd.is_defined a ≡ (conditions t).wd
functional t a o p q = sym (ap (λ k. k.wd) (at-unary t a o p ∙ ap (λ z. wd.by_unary z (conditions a)) q) ∙ ap wd.is_defined (kept a))

pub partition : (t : Term) (ts : List Term) (o : Many) → t.head ≡ head.Many o ts → o ≡ many.Partition → wd.all_defined ts ≡ (conditions t).wd
partition t ts o p q = sym (at-partition t ts o p q ∙ ap wd.all_defined (all_terms_kept ts))

-- `P & Q` and `P => Q`
pub and : (t a b : Term) (x : Binary) (o : Operator) → t.head ≡ head.Binary x a b → x ≡ binary.Operator o → o ≡ op.And → conjunction (wd.wd a) (operation op.Implies a (wd.wd b)) ≡ (conditions t).wd
and t a b x o p q r = sym (ap (λ k. k.wd) (at-operator t a b x o p q ∙ ap (λ z. wd.by_operator z (conditions a) (conditions b)) r) ∙ ap (λ z. conjunction (wd.wd a) (operation op.Implies z (wd.wd b))) (kept a))

pub implies : (t a b : Term) (x : Binary) (o : Operator) → t.head ≡ head.Binary x a b → x ≡ binary.Operator o → o ≡ op.Implies → conjunction (wd.wd a) (operation op.Implies a (wd.wd b)) ≡ (conditions t).wd
implies t a b x o p q r = sym (ap (λ k. k.wd) (at-operator t a b x o p q ∙ ap (λ z. wd.by_operator z (conditions a) (conditions b)) r) ∙ ap (λ z. conjunction (wd.wd a) (operation op.Implies z (wd.wd b))) (kept a))

pub or : (t a b : Term) (x : Binary) (o : Operator) → t.head ≡ head.Binary x a b → x ≡ binary.Operator o → o ≡ op.Or → conjunction (wd.wd a) (operation op.Or a (wd.wd b)) ≡ (conditions t).wd
or t a b x o p q r = sym (ap (λ k. k.wd) (at-operator t a b x o p q ∙ ap (λ z. wd.by_operator z (conditions a) (conditions b)) r) ∙ ap (λ z. conjunction (wd.wd a) (operation op.Or z (wd.wd b))) (kept a))

pub for_all : (t s body : Term) (o : Binder) → t.head ≡ head.Over o s body → o ≡ binder.ForAll → conjunction (wd.is_defined s) (term.over binder.ForAll s (wd.wd body)) ≡ (conditions t).wd
for_all t s body o p q = sym (ap (λ k. k.wd) (at-over t s body o p ∙ ap (λ z. wd.over z (conditions s).term (conditions body)) q) ∙ ap (λ z. conjunction (wd.is_defined z) (term.over binder.ForAll z (wd.wd body))) (kept s))

pub exists : (t s body : Term) (o : Binder) → t.head ≡ head.Over o s body → o ≡ binder.Exists → conjunction (wd.is_defined s) (term.over binder.ForAll s (wd.wd body)) ≡ (conditions t).wd
exists t s body o p q = sym (ap (λ k. k.wd) (at-over t s body o p ∙ ap (λ z. wd.over z (conditions s).term (conditions body)) q) ∙ ap (λ z. conjunction (wd.is_defined z) (term.over binder.ForAll z (wd.wd body))) (kept s))

-- ---- an operator that is no connective

pub record IsNoConnective (o : Operator) : Type 0 where
  pub no_implies : o ≡ op.Implies → ⊥
  pub no_equivalent : o ≡ op.Equivalent → ⊥
  pub no_or : o ≡ op.Or → ⊥
  pub no_and : o ≡ op.And → ⊥

either_true : (b : Bool) (t : Term) (values : List Term) → term.truth true ≡ (if b then wd.form t values else wd.expression t).wd
either_true true t values = refl
either_true false t values = refl

other_wd : (o : Operator) (k l : Conditions) → IsNoConnective o → (if kind.is_membership o then wd.all_defined (k.term ∷ l.values) else (if wd.is_comparison o then wd.all_defined (k.term ∷ l.term ∷ []) else term.truth true)) ≡ (wd.by_operator o k l).wd
other_wd op.Implies k l n = absurd (n.no_implies refl)
other_wd op.Equivalent k l n = absurd (n.no_equivalent refl)
other_wd op.Or k l n = absurd (n.no_or refl)
other_wd op.And k l n = absurd (n.no_and refl)
other_wd op.Product k l n = either_true (k.is_form || l.is_form) (operation op.Product k.term l.term) (k.values ++ l.values)
other_wd _ k l n = refl

pub relation : (t a b : Term) (x : Binary) (o : Operator) → t.head ≡ head.Binary x a b → x ≡ binary.Operator o → IsNoConnective o
    → (if kind.is_membership o then wd.all_defined (a ∷ (conditions b).values) else (if wd.is_comparison o then wd.all_defined (a ∷ b ∷ []) else term.truth true)) ≡ (conditions t).wd
relation t a b x o p q n =
    sym (ap₂ (λ y z. if kind.is_membership o then wd.all_defined (y ∷ (conditions b).values) else (if wd.is_comparison o then wd.all_defined (y ∷ z ∷ []) else term.truth true)) (kept a) (kept b))
    ∙ other_wd o (conditions a) (conditions b) n ∙ ap (λ k. k.wd) (sym (at-operator t a b x o p q))

-- ---- from equal parts

pub guarded : (join : Operator) (a b one other third x y : Term) → one ≡ a → other ≡ b → third ≡ a → x ≡ (conditions one).wd → y ≡ (conditions other).wd
    → conjunction x (operation join third y) ≡ conjunction (wd.wd a) (operation join a (wd.wd b))
guarded join a b one other third x y e g h p q =
    ap₂ conjunction (p ∙ ap (λ z. (conditions z).wd) e) (ap₂ (operation join) h (q ∙ ap (λ z. (conditions z).wd) g))

pub over_range : (s body one other x : Term) → one ≡ s → other ≡ body → x ≡ (conditions other).wd
    → conjunction (wd.is_defined one) (term.over binder.ForAll one x) ≡ conjunction (wd.is_defined s) (term.over binder.ForAll s (wd.wd body))
over_range s body one other x e g p = ap₂ (λ y z. conjunction (wd.is_defined y) (term.over binder.ForAll y z)) e (p ∙ ap (λ z. (conditions z).wd) g)

pub relation_of : (o : Operator) (a b one other : Term) → one ≡ a → other ≡ b
    → (if kind.is_membership o then wd.all_defined (one ∷ (conditions other).values) else (if wd.is_comparison o then wd.all_defined (one ∷ other ∷ []) else term.truth true))
    ≡ (if kind.is_membership o then wd.all_defined (a ∷ (conditions b).values) else (if wd.is_comparison o then wd.all_defined (a ∷ b ∷ []) else term.truth true))
relation_of o a b one other e g = ap₂ (λ y z. if kind.is_membership o then wd.all_defined (y ∷ (conditions z).values) else (if wd.is_comparison o then wd.all_defined (y ∷ z ∷ []) else term.truth true)) e g

-- ---- value parts

-- each of the expressions is defined, after this
abbrev pub and_values : Term → List Term → Term
and_values so_far vs = wd.and_on so_far (map wd.is_defined vs)

pub and_append : (so_far : Term) (xs ys : List Term) → and_values (and_values so_far xs) ys ≡ and_values so_far (xs ++ ys)
and_append so_far [] ys = refl
and_append so_far (x ∷ xs) ys = and_append (conjunction so_far (wd.is_defined x)) xs ys

at-binary : (t a b : Term) (o : Binary) → t.head ≡ head.Binary o a b → conditions t ≡ wd.by_binary o (conditions a) (conditions b)
at-binary t a b o p = search (rules, fold_out-Term, the_lemmas, p)

at-many : (t : Term) (ts : List Term) (o : Many) → t.head ≡ head.Many o ts → conditions t ≡ wd.by_many o (map conditions ts)
at-many t ts o p = search (rules, fold_out-Term, the_lemmas, p)

at-all : (t body : Term) (ty : EbType) (o : Binder) → t.head ≡ head.All o ty body → conditions t ≡ wd.all o ty (conditions body)
at-all t body ty o p = search (rules, fold_out-Term, the_lemmas, p)

-- the term is its one value part
itself : (t so_far : Term) (k : Conditions) → conditions t ≡ k → k.values ≡ k.term ∷ [] → conjunction so_far (wd.is_defined t) ≡ and_values so_far (conditions t).values
itself t so_far k e h = ap (and_values so_far) (sym (ap (λ z. z.values) e ∙ h ∙ ap (λ z. z ∷ []) (sym (ap (λ z. z.term) e) ∙ kept t)))

pub unary_itself : (t a so_far : Term) (o : Unary) → t.head ≡ head.Unary o a → ((k : Conditions) → (wd.by_unary o k).values ≡ (wd.by_unary o k).term ∷ [])
    → conjunction so_far (wd.is_defined t) ≡ and_values so_far (conditions t).values
unary_itself t a so_far o p h = itself t so_far (wd.by_unary o (conditions a)) (at-unary t a o p) (h (conditions a))

pub operator_itself : (t a b so_far : Term) (x : Binary) (o : Operator) → t.head ≡ head.Binary x a b → x ≡ binary.Operator o
    → (wd.by_operator o (conditions a) (conditions b)).values ≡ (wd.by_operator o (conditions a) (conditions b)).term ∷ [] → conjunction so_far (wd.is_defined t) ≡ and_values so_far (conditions t).values
operator_itself t a b so_far x o p q h = itself t so_far (wd.by_operator o (conditions a) (conditions b)) (at-operator t a b x o p q) h

pub operator_parts : (t a b so_far : Term) (x : Binary) (o : Operator) → t.head ≡ head.Binary x a b → x ≡ binary.Operator o
    → (wd.by_operator o (conditions a) (conditions b)).values ≡ (conditions a).values ++ (conditions b).values
    → (one other first : Term) → one ≡ a → other ≡ b → first ≡ and_values so_far (conditions one).values
    → and_values first (conditions other).values ≡ and_values so_far (conditions t).values
operator_parts t a b so_far x o p q h one other first e g r =
    ap₂ (λ y z. and_values y (conditions z).values) (r ∙ ap (λ z. and_values so_far (conditions z).values) e) g
    ∙ and_append so_far (conditions a).values (conditions b).values ∙ ap (and_values so_far) (sym (ap (λ k. k.values) (at-operator t a b x o p q) ∙ h))

pub if_itself : (t a b so_far : Term) (o : Binary) → t.head ≡ head.Binary o a b → o ≡ binary.If → conjunction so_far (wd.is_defined t) ≡ and_values so_far (conditions t).values
if_itself t a b so_far o p q = itself t so_far (wd.by_binary binary.If (conditions a) (conditions b)) (at-binary t a b o p ∙ ap (λ z. wd.by_binary z (conditions a) (conditions b)) q) refl

pub extension_itself : (t so_far : Term) (ts : List Term) (o : Many) → t.head ≡ head.Many o ts → o ≡ many.Extension → conjunction so_far (wd.is_defined t) ≡ and_values so_far (conditions t).values
extension_itself t so_far ts o p q = itself t so_far (wd.by_many many.Extension (map conditions ts)) (at-many t ts o p ∙ ap (λ z. wd.by_many z (map conditions ts)) q) refl

pub collected_over_itself : (t s body so_far : Term) (o : Binder) → t.head ≡ head.Over o s body → o ≡ binder.Collect → conjunction so_far (wd.is_defined t) ≡ and_values so_far (conditions t).values
collected_over_itself t s body so_far o p q = itself t so_far (wd.over binder.Collect (conditions s).term (conditions body)) (at-over t s body o p ∙ ap (λ z. wd.over z (conditions s).term (conditions body)) q) refl

pub collected_itself : (t body so_far : Term) (ty : EbType) (o : Binder) → t.head ≡ head.All o ty body → o ≡ binder.Collect → conjunction so_far (wd.is_defined t) ≡ and_values so_far (conditions t).values
collected_itself t body so_far ty o p q = itself t so_far (wd.all binder.Collect ty (conditions body)) (at-all t body ty o p ∙ ap (λ z. wd.all z ty (conditions body)) q) refl
