-- Induction over terms, by the plain constructors.
use Rattle.std.proofs.Common.{Bool, List, [], ◌∷◌, ℕ, map, subst}
use Rattle.std.specs.List.{AllByRecursion}
use Rattle.eb_value.specs.declared.types.EbType.{EbType}
use Rattle.eb_value.specs.declared.value.Value.{Value}
use Rattle.eb_term.specs.declared.operators.Unary.{Unary}
use Rattle.eb_term.specs.declared.operators.Binary.{Binary}
use Rattle.eb_term.specs.declared.operators.Binder.{Binder}
use Rattle.eb_term.specs.declared.operators.Infinite.{Infinite}
use Rattle.eb_term.specs.declared.operators.Many.{Many}
use Rattle.eb_term.specs.declared.operators.Side.{Side}
use Rattle.eb_term.specs.declared.term.Term.{Term, ind-Term}
use Rattle.eb_term.specs.declared.term.Head.{Head, Head-F, map-Head}
use Rattle.eb_term.specs.declared.term.Head.TheViews.{roll-Head, roll-Term}
use Rattle.eb_term.specs.declared.term.Head.TheOpen as head
use Rattle.eb_term.specs.Terms.{truth, literal, reference, variable, infinite, identity, projection, unary, binary, many, over, all}

abbrev Known : (Term → Type 0) → Type 0
Known P = (t : Term) × P t

-- A head says nothing by itself: its term does.
abbrev KnownHead : (Term → Type 0) → Type 0
KnownHead P = (h : Head) × P (roll-Term (record { head = h }))

each_known : (P : Term → Type 0) (ts : List (Known P)) → AllByRecursion P (map (λ t. t.0) ts)
each_known P [] = tt
each_known P (t ∷ ts) = (t.1, each_known P ts)

-- what the induction asks at each constructor
pub record Steps (P : Term → Type 0) : Type 0 where
  pub truth : (b : Bool) → P (truth b)
  pub literal : (v : Value) (ty : EbType) → P (literal v ty)
  pub reference : (place : ℕ) (ty : EbType) → P (reference place ty)
  pub variable : (k : ℕ) (path : List Side) (ty : EbType) → P (variable k path ty)
  pub infinite : (i : Infinite) → P (infinite i)
  pub identity : (ty : EbType) → P (identity ty)
  pub projection : (s : Side) (a b : EbType) → P (projection s a b)
  pub unary : (o : Unary) (a : Term) → P a → P (unary o a)
  pub binary : (o : Binary) (a b : Term) → P a → P b → P (binary o a b)
  pub many : (o : Many) (ts : List Term) → AllByRecursion P ts → P (many o ts)
  pub over : (o : Binder) (range body : Term) → P range → P body → P (over o range body)
  pub all : (o : Binder) (ty : EbType) (body : Term) → P body → P (all o ty body)

step : (P : Term → Type 0) → Steps P → (y : Head-F (KnownHead P) (Known P)) → P (roll-Term (record { head = roll-Head (map-Head (KnownHead P) (Known P) Head Term (λ e. e.0) (λ e. e.0) y) }))
unfolding roll-Head denote.Hole.Carrier.roll
step P s (head.Truth b) = s.truth b
step P s (head.Literal v ty) = s.literal v ty
step P s (head.Reference place ty) = s.reference place ty
step P s (head.Variable k path ty) = s.variable k path ty
step P s (head.Infinite i) = s.infinite i
step P s (head.Identity ty) = s.identity ty
step P s (head.Projection x a b) = s.projection x a b
step P s (head.Unary o a) = s.unary o a.0 a.1
step P s (head.Binary o a b) = s.binary o a.0 b.0 a.1 b.1
step P s (head.Many o ts) = s.many o (map (λ t. t.0) ts) (each_known P ts)
step P s (head.Over o range body) = s.over o range.0 body.0 range.1 body.1
step P s (head.All o ty body) = s.all o ty body.0 body.1

pub ind_term : (P : Term → Type 0) → Steps P → (t : Term) → P t
ind_term P s =
    ind-Term (λ h. P (roll-Term (record { head = h }))) P
    (λ x y is. subst (λ z. P (roll-Term (record { head = roll-Head z }))) is (step P s y))
    (λ x y is. subst (λ z. P (roll-Term z)) is y.head.1)
