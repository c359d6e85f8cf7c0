-- What says that a predicate isn't Undefined (Abrial, "Modeling in Event-B", 2010, chapter 9; Métayer and Voisin, 2009).
use Rattle.std.specs.Prelude.{Bool, true, false, List, [], ◌∷◌, ◌++◌, map, if◌then◌else◌, ◌&&◌, ◌||◌}
use Rattle.eb_syntax.specs.declared.ast.Prefix.TheVariants as prefix
use Rattle.eb_syntax.specs.declared.ast.Call.TheVariants as call
use Rattle.eb_syntax.specs.declared.ast.Operator.{Operator}
use Rattle.eb_syntax.specs.declared.ast.Operator.TheVariants as op
use Rattle.eb_value.specs.declared.types.EbType.{EbType}
use Rattle.eb_term.specs.declared.operators.Unary.{Unary}
use Rattle.eb_term.specs.declared.operators.Unary.TheVariants as unary
use Rattle.eb_term.specs.declared.operators.Binary.{Binary}
use Rattle.eb_term.specs.declared.operators.Binary.TheVariants as binary
use Rattle.eb_term.specs.declared.operators.Many.{Many}
use Rattle.eb_term.specs.declared.operators.Many.TheVariants as many
use Rattle.eb_term.specs.declared.operators.Binder.{Binder}
use Rattle.eb_term.specs.declared.operators.Binder.TheVariants as binder
use Rattle.eb_term.specs.declared.term.Term.{Term}
use Rattle.eb_term.specs.declared.term.Head.{Head-F}
use Rattle.eb_term.specs.declared.term.Head.TheOpen as head
use Rattle.eb_term.specs.Terms as term
use Rattle.eb_term.specs.Terms.{by_parts}
use Rattle.operator_kinds.specs.Operators.{is_membership, is_product, is_arrow}
use Rattle.narrow_terms.specs.Building.{operation, conjunction}

-- A term; of a predicate, what says that it isn't Undefined; of what stands to the right of a membership, its value parts; and
-- whether it is a form.
pub record Conditions : Type 0 where
  pub term : Term
  pub wd : Term
  pub values : List Term
  pub is_form : Bool

abbrev pub implication : Term → Term → Term
implication p q = operation op.Implies p q

abbrev pub disjunction : Term → Term → Term
disjunction p q = operation op.Or p q

abbrev pub is_defined : Term → Term
is_defined e = term.unary unary.Defined e

-- from the left; `true` for none
abbrev pub and_on : Term → List Term → Term
and_on p [] = p
and_on p (q ∷ qs) = and_on (conjunction p q) qs

abbrev pub and_of : List Term → Term
and_of [] = term.truth true
and_of (p ∷ ps) = and_on p ps

-- each of the expressions is defined
abbrev pub all_defined : List Term → Term
all_defined es = and_of (map is_defined es)

abbrev pub expression : Term → Conditions
expression t = record { term = t; wd = term.truth true; values = t ∷ []; is_form = false }

abbrev pub form : Term → List Term → Conditions
form t values = record { term = t; wd = term.truth true; values = values; is_form = true }

abbrev pub predicate : Term → Term → Conditions
predicate t wd = record { term = t; wd = wd; values = []; is_form = false }

abbrev pub by_unary : Unary → Conditions → Conditions
by_unary (unary.Prefix prefix.Not) p = predicate (term.unary (unary.Prefix prefix.Not) p.term) p.wd
by_unary (unary.Call call.Finite) s = predicate (term.unary (unary.Call call.Finite) s.term) (is_defined s.term)
by_unary (unary.Call call.PowerSet) f = form (term.unary (unary.Call call.PowerSet) f.term) f.values
by_unary (unary.Call call.NonemptyPowerSet) f = form (term.unary (unary.Call call.NonemptyPowerSet) f.term) f.values
by_unary unary.Defined e = predicate (term.unary unary.Defined e.term) (term.truth true)
by_unary unary.Functional e = predicate (term.unary unary.Functional e.term) (is_defined e.term)
by_unary o e = expression (term.unary o e.term)

-- the relations but those of membership
abbrev pub is_comparison : Operator → Bool
is_comparison op.Equal = true
is_comparison op.Unequal = true
is_comparison op.Less = true
is_comparison op.AtMost = true
is_comparison op.Greater = true
is_comparison op.AtLeast = true
is_comparison _ = false

abbrev pub by_operator : Operator → Conditions → Conditions → Conditions
by_operator op.And p q = predicate (operation op.And p.term q.term) (conjunction p.wd (implication p.term q.wd))
by_operator op.Implies p q = predicate (operation op.Implies p.term q.term) (conjunction p.wd (implication p.term q.wd))
by_operator op.Or p q = predicate (operation op.Or p.term q.term) (conjunction p.wd (disjunction p.term q.wd))
by_operator op.Equivalent p q = predicate (operation op.Equivalent p.term q.term) (conjunction p.wd q.wd)
by_operator o a b = if is_membership o then predicate (operation o a.term b.term) (all_defined (a.term ∷ b.values))
    else (if is_comparison o then predicate (operation o a.term b.term) (all_defined (a.term ∷ b.term ∷ []))
    else (if is_arrow o || (is_product o && (a.is_form || b.is_form)) then form (operation o a.term b.term) (a.values ++ b.values)
    else expression (operation o a.term b.term)))

abbrev pub by_binary : Binary → Conditions → Conditions → Conditions
by_binary (binary.Operator o) a b = by_operator o a b
by_binary binary.Both p q = predicate (term.binary binary.Both p.term q.term) (conjunction p.wd q.wd)
by_binary binary.If p s = expression (term.binary binary.If p.term s.term)

abbrev pub by_many : Many → List Conditions → Conditions
by_many many.Extension es = expression (term.many many.Extension (map (λ e. e.term) es))
by_many many.Partition es = predicate (term.many many.Partition (map (λ e. e.term) es)) (all_defined (map (λ e. e.term) es))

abbrev pub over : Binder → Term → Conditions → Conditions
over binder.ForAll s p = predicate (term.over binder.ForAll s p.term) (conjunction (is_defined s) (term.over binder.ForAll s p.wd))
over binder.Exists s p = predicate (term.over binder.Exists s p.term) (conjunction (is_defined s) (term.over binder.ForAll s p.wd))
over binder.Collect s e = expression (term.over binder.Collect s e.term)

abbrev pub all : Binder → EbType → Conditions → Conditions
all binder.ForAll t p = predicate (term.all binder.ForAll t p.term) (term.all binder.ForAll t p.wd)
all binder.Exists t p = predicate (term.all binder.Exists t p.term) (term.all binder.ForAll t p.wd)
all binder.Collect t e = expression (term.all binder.Collect t e.term)

abbrev pub wd_step : Head-F Conditions Conditions → Conditions
wd_step (head.Truth b) = predicate (term.truth b) (term.truth true)
wd_step (head.Literal v t) = expression (term.literal v t)
wd_step (head.Reference place t) = expression (term.reference place t)
wd_step (head.Variable k path t) = expression (term.variable k path t)
wd_step (head.Infinite i) = form (term.infinite i) []
wd_step (head.Identity t) = expression (term.identity t)
wd_step (head.Projection s a b) = expression (term.projection s a b)
wd_step (head.Unary o a) = by_unary o a
wd_step (head.Binary o a b) = by_binary o a b
wd_step (head.Many o es) = by_many o es
wd_step (head.Over o s body) = over o s.term body
wd_step (head.All o t body) = all o t body

-- what says that the predicate isn't Undefined
abbrev pub wd : Term → Term
wd t = (by_parts Conditions wd_step t).wd
