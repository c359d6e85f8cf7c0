-- Narrow form: the same formulas with few operators. What stands to the right of a membership is written out, `!` and the other
-- relations go by `not`, and what copies parts is named here alone.
use Rattle.std.specs.Prelude.{ℕ, ◌+◌, Bool, true, false, ◌&&◌, ◌||◌, if◌then◌else◌, List, [], ◌∷◌, ◌++◌, map, Option, Some, None, option_and_then, unwrap_or, pos}
use Rattle.eb_syntax.specs.declared.ast.Prefix.{Prefix}
use Rattle.eb_syntax.specs.declared.ast.Prefix.TheVariants as prefix
use Rattle.eb_syntax.specs.declared.ast.Call.{Call}
use Rattle.eb_syntax.specs.declared.ast.Call.TheVariants as call
use Rattle.eb_syntax.specs.declared.ast.Operator.{Operator}
use Rattle.eb_syntax.specs.declared.ast.Operator.TheVariants as op
use Rattle.eb_value.specs.declared.types.EbType.{EbType}
use Rattle.eb_value.specs.Types.{integer, boolean, power}
use Rattle.eb_term.specs.declared.operators.Unary.{Unary}
use Rattle.eb_term.specs.declared.operators.Unary.TheVariants as unary
use Rattle.eb_term.specs.declared.operators.Binary.{Binary}
use Rattle.eb_term.specs.declared.operators.Binary.TheVariants as binary
use Rattle.eb_term.specs.declared.operators.Many.{Many}
use Rattle.eb_term.specs.declared.operators.Many.TheVariants as many
use Rattle.eb_term.specs.declared.operators.Binder.{Binder}
use Rattle.eb_term.specs.declared.operators.Binder.TheVariants as binder
use Rattle.eb_term.specs.declared.operators.Infinite.{Infinite}
use Rattle.eb_term.specs.declared.operators.Infinite.TheVariants as infinite
use Rattle.eb_term.specs.declared.operators.Side.{Side}
use Rattle.eb_term.specs.declared.operators.Side.TheVariants as side
use Rattle.eb_term.specs.declared.term.Term.{Term}
use Rattle.eb_term.specs.declared.term.Head.{Head-F}
use Rattle.eb_term.specs.declared.term.Head.TheOpen as head
use Rattle.eb_term.specs.Terms as term
use Rattle.eb_term.specs.Terms.{by_parts}
use Rattle.eb_meaning.specs.Meaning.{is_product, is_arrow, is_total, is_surjective, is_function, is_injection}
use Rattle.type_table.specs.Rows.{relation}
use Rattle.narrow_terms.specs.Shifting.{shift}
use Rattle.narrow_terms.specs.Building.{operation, negation, conjunction, both, equal, at_most, member, subset, part, domain, range, inverse, functional, extension, pair, is_defined, empty_set, no_value, whole, both_of, infinite_has, partition}
use Rattle.term_types.specs.Types as types
use Rattle.narrow_terms.specs.Parts.{element_of}
pub use Rattle.term_types.specs.Types.{element_type, type_or_any}
use Rattle.term_types.specs.Types.{type_by_unary, type_by_binary, type_by_many, type_by_binder}

-- ---- types, BOOL where there is none

-- ---- what becomes of a term

-- A term's type; whether it is a form, a set that is no value; the term in narrow form, by the number of binders around it; and
-- of what stands to the right of a membership: the parts that are values, that it has the value of e, that it has each member of
-- e, and that e is all of it. These are by the number of binders around it where it was written, the number of those that narrow
-- form has put around it, and e.
pub record Narrowed : Type 0 where
  pub ty : Option EbType
  pub is_form : Bool
  pub term : ℕ → Term
  pub values : ℕ → List Term
  pub has : ℕ → ℕ → Term → Term
  pub has_members : ℕ → ℕ → Term → Term
  pub is_all : ℕ → ℕ → Term → Term

-- an expression has the members of its value
abbrev pub expression : Option EbType → (ℕ → Term) → Narrowed
expression ty t = record {
  ty = ty;
  is_form = false;
  term = t;
  values = λ d. t d ∷ [];
  has = λ d x e. member e (shift d x (t d));
  has_members = λ d x e. subset e (shift d x (t d));
  is_all = λ d x e. equal e (shift d x (t d));
}

-- a predicate stands to the right of no membership
abbrev pub predicate : (ℕ → Term) → Narrowed
predicate t = expression None t

-- each value part is defined, and the form has each member of e
abbrev pub each_member : Option EbType → (ℕ → List Term) → (ℕ → ℕ → Term → Term) → ℕ → ℕ → Term → Term
each_member ty values has d x e = both_of (map (λ v. is_defined (shift d x v)) (values d)
    ++ negation (term.over binder.Exists e (negation (has d (x + 1) (whole (d + x) (element_type ty))))) ∷ [])

-- each value part is defined, and no finite set is all of a form
abbrev pub no_set_is_all : (ℕ → List Term) → ℕ → ℕ → Term → Term
no_set_is_all values d x e = both_of (map (λ v. is_defined (shift d x v)) (values d) ++ negation (is_defined e) ∷ [])

abbrev pub form : Option EbType → (ℕ → List Term) → (ℕ → ℕ → Term → Term) → Narrowed
form ty values has = record {
  ty = ty;
  is_form = true;
  term = λ d. no_value (type_or_any ty);
  values = values;
  has = has;
  has_members = each_member ty values has;
  is_all = no_set_is_all values;
}

-- `a..b`, which has an integer between its ends
abbrev pub interval : Option EbType → Narrowed → Narrowed → Narrowed
interval ty a b =
    let t : ℕ → Term = λ d. operation op.UpTo (a.term d) (b.term d) in
    record {
      ty = ty;
      is_form = false;
      term = t;
      values = λ d. t d ∷ [];
      has = λ d x e. both (at_most (shift d x (a.term d)) e) (at_most e (shift d x (b.term d)));
      has_members = λ d x e. subset e (shift d x (t d));
      is_all = λ d x e. equal e (shift d x (t d));
    }

-- INT has each integer
abbrev pub infinite_has_members : Infinite → ℕ → ℕ → Term → Term
infinite_has_members infinite.Integers d x e = is_defined e
infinite_has_members i d x e = each_member (Some (power integer)) (λ d. []) (λ d x e. infinite_has i e) d x e

abbrev pub infinite_set : Infinite → Narrowed
infinite_set i = record {
  ty = Some (power integer);
  is_form = true;
  term = λ d. no_value (power integer);
  values = λ d. [];
  has = λ d x e. infinite_has i e;
  has_members = infinite_has_members i;
  is_all = no_set_is_all (λ d. []);
}

-- POW(F) has the sets of which F has each member
abbrev pub power_set : Option EbType → Narrowed → Narrowed
power_set ty f = form ty f.values f.has_members

-- POW1(F) those that aren't empty
abbrev pub nonempty_power_set : Option EbType → Narrowed → Narrowed
nonempty_power_set ty f = form ty f.values (λ d x e. both (f.has_members d x e) (negation (equal e (empty_set (type_or_any f.ty)))))

-- F ** G with a part that is a form
abbrev pub product_form : Option EbType → Narrowed → Narrowed → Narrowed
product_form ty f g = form ty (λ d. f.values d ++ g.values d) (λ d x e. both (f.has d x (part side.First e)) (g.has d x (part side.Second e)))

-- a side of a relation, all of it where the arrow asks that
abbrev pub covers : Bool → Narrowed → ℕ → ℕ → Term → Term
covers true f d x e = f.is_all d x e
covers false f d x e = f.has_members d x e

abbrev pub if_asked : Bool → Term → List Term
if_asked true p = p ∷ []
if_asked false p = []

-- F arrow G
abbrev pub arrow_form : Operator → Option EbType → Narrowed → Narrowed → Narrowed
arrow_form o ty f g = form ty (λ d. f.values d ++ g.values d) (λ d x e. both_of (covers (is_total o) f d x (domain e) ∷ covers (is_surjective o) g d x (range e)
    ∷ (if_asked (is_function o) (functional e) ++ if_asked (is_injection o) (functional (inverse e)))))

-- e <<: F
abbrev pub proper_subset : Narrowed → Narrowed → ℕ → Term
proper_subset e f d = if f.is_form then f.has_members d 0 (e.term d)
    else conjunction (subset (e.term d) (f.term d)) (negation (equal (e.term d) (f.term d)))

-- ---- operator by operator

abbrev pub by_prefix : Prefix → Option EbType → Narrowed → Narrowed
by_prefix prefix.Not ty p = predicate (λ d. negation (p.term d))
by_prefix prefix.Minus ty a = expression ty (λ d. operation op.Minus (term.integer (pos 0)) (a.term d))

-- union(s) collects the members of s
abbrev pub union_of_members : Narrowed → ℕ → Term
union_of_members s d = term.over binder.Collect (s.term d) (whole d (element_type s.ty))

abbrev pub by_call : Call → Option EbType → Narrowed → Narrowed
by_call call.PowerSet ty f = power_set ty f
by_call call.NonemptyPowerSet ty f = nonempty_power_set ty f
by_call call.Finite ty s = predicate (λ d. is_defined (s.term d))
by_call call.GeneralizedUnion ty s = expression ty (union_of_members s)
by_call call.BoolOf ty p = expression ty (λ d. term.unary (unary.Call call.BoolOf) (p.term d))
by_call call.Cardinality ty s = expression ty (λ d. term.unary (unary.Call call.Cardinality) (s.term d))
by_call call.Minimum ty s = expression ty (λ d. term.unary (unary.Call call.Minimum) (s.term d))
by_call call.Maximum ty s = expression ty (λ d. term.unary (unary.Call call.Maximum) (s.term d))
by_call call.Domain ty s = expression ty (λ d. term.unary (unary.Call call.Domain) (s.term d))
by_call call.Range ty s = expression ty (λ d. term.unary (unary.Call call.Range) (s.term d))
by_call call.GeneralizedIntersection ty s = expression ty (λ d. term.unary (unary.Call call.GeneralizedIntersection) (s.term d))

abbrev pub by_unary : Unary → Option EbType → Narrowed → Narrowed
by_unary (unary.Prefix o) ty a = by_prefix o ty a
by_unary (unary.Call o) ty a = by_call o ty a
by_unary unary.Inverse ty a = expression ty (λ d. inverse (a.term d))
by_unary unary.Defined ty a = predicate (λ d. term.unary unary.Defined (a.term d))
by_unary unary.Functional ty a = predicate (λ d. functional (a.term d))
by_unary (unary.Part s) ty a = expression ty (λ d. part s (a.term d))

-- a relation in narrow form; a connective and an operation stay
abbrev pub by_relation : Operator → Option EbType → Narrowed → Narrowed → Narrowed
by_relation op.Unequal ty a b = predicate (λ d. negation (equal (a.term d) (b.term d)))
by_relation op.Less ty a b = predicate (λ d. negation (at_most (b.term d) (a.term d)))
by_relation op.Greater ty a b = predicate (λ d. negation (at_most (a.term d) (b.term d)))
by_relation op.AtLeast ty a b = predicate (λ d. at_most (b.term d) (a.term d))
by_relation op.MemberOf ty e f = predicate (λ d. f.has d 0 (e.term d))
by_relation op.NotMemberOf ty e f = predicate (λ d. negation (f.has d 0 (e.term d)))
by_relation op.SubsetOf ty e f = predicate (λ d. f.has_members d 0 (e.term d))
by_relation op.NotSubsetOf ty e f = predicate (λ d. negation (f.has_members d 0 (e.term d)))
by_relation op.ProperSubsetOf ty e f = predicate (proper_subset e f)
by_relation op.NotProperSubsetOf ty e f = predicate (λ d. negation (proper_subset e f d))
by_relation op.BackwardComposition ty r s = expression ty (λ d. operation op.ForwardComposition (s.term d) (r.term d))
by_relation op.UpTo ty a b = interval ty a b
by_relation o ty a b = expression ty (λ d. operation o (a.term d) (b.term d))

abbrev pub by_operator : Operator → Option EbType → Narrowed → Narrowed → Narrowed
by_operator o ty a b = if is_arrow o then arrow_form o ty a b
    else (if is_product o && (a.is_form || b.is_form) then product_form ty a b else by_relation o ty a b)

abbrev pub by_binary : Binary → Option EbType → Narrowed → Narrowed → Narrowed
by_binary (binary.Operator o) ty a b = by_operator o ty a b
by_binary binary.Both ty p q = predicate (λ d. both (p.term d) (q.term d))
by_binary binary.If ty p s = expression ty (λ d. term.binary binary.If (p.term d) (s.term d))

abbrev pub set_type : List Narrowed → EbType
set_type [] = boolean
set_type (s ∷ ss) = type_or_any s.ty

abbrev pub by_many : Many → Option EbType → List Narrowed → Narrowed
by_many many.Extension ty es = expression ty (λ d. term.many many.Extension (map (λ e. e.term d) es))
by_many many.Partition ty es = predicate (λ d. partition (set_type es) (map (λ e. e.term d) es))

-- a body stands under one more binder
abbrev pub by_range : Binder → Option EbType → (Binder → ℕ → Term → Term) → Narrowed → Narrowed
by_range binder.ForAll ty bind p = predicate (λ d. negation (bind binder.Exists d (negation (p.term (d + 1)))))
by_range binder.Exists ty bind p = predicate (λ d. bind binder.Exists d (p.term (d + 1)))
by_range binder.Collect ty bind s = expression ty (λ d. bind binder.Collect d (s.term (d + 1)))

-- id: the pairs of each value and itself
abbrev pub identity : EbType → ℕ → Term
identity t d = term.all binder.Collect t (extension (pair (whole d t) (whole d t)))

abbrev pub chosen : Side → Term → Term → Term
chosen side.First x y = x
chosen side.Second x y = y

-- prj1 and prj2: for each pair the pair and its part
abbrev pub projection : Side → EbType → EbType → ℕ → Term
projection s a b d = term.all binder.Collect a (term.all binder.Collect b
    (extension (pair (pair (whole d a) (whole (d + 1) b)) (chosen s (whole d a) (whole (d + 1) b)))))

abbrev pub narrow_step : Head-F Narrowed Narrowed → Narrowed
narrow_step (head.Truth b) = predicate (λ d. term.truth b)
narrow_step (head.Literal v t) = expression (Some t) (λ d. term.literal v t)
narrow_step (head.Reference place t) = expression (Some t) (λ d. term.reference place t)
narrow_step (head.Variable k path t) = expression (Some t) (λ d. term.variable k path t)
narrow_step (head.Infinite i) = infinite_set i
narrow_step (head.Identity t) = expression (Some (relation t t)) (identity t)
narrow_step (head.Projection s a b) = expression (types.type_step (head.Projection s a b)) (projection s a b)
narrow_step (head.Unary o a) = by_unary o (type_by_unary o a.ty) a
narrow_step (head.Binary o a b) = by_binary o (type_by_binary o a.ty b.ty) a b
narrow_step (head.Many o es) = by_many o (type_by_many o (map (λ e. e.ty) es)) es
narrow_step (head.Over o s body) = by_range o (type_by_binder o body.ty) (λ k d p. term.over k (s.term d) p) body
narrow_step (head.All o t body) = by_range o (type_by_binder o body.ty) (λ k d p. term.all k t p) body

abbrev pub narrowed : Term → Narrowed
narrowed = by_parts Narrowed narrow_step

-- the term in narrow form, where it stands under no binder
abbrev pub narrow : Term → Term
narrow t = (narrowed t).term 0
