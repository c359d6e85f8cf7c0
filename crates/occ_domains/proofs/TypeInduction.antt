-- Induction over types and over the pairs of values, and cases of values, by the plain constructors.
use Rattle.std.proofs.Common.{ℕ, ℤ, Bool, List, map, subst}
use Rattle.eb_value.specs.declared.types.EbType.{EbType, ind-EbType}
use Rattle.eb_value.specs.declared.types.Shape.{Shape, Shape-F, map-Shape}
use Rattle.eb_value.specs.declared.types.Shape.TheViews.{roll-Shape, roll-EbType}
use Rattle.eb_value.specs.declared.types.Shape.TheOpen as ty
use Rattle.eb_value.specs.declared.value.Value.{Value, ind-Value}
use Rattle.eb_value.specs.declared.value.Form.{Form, Form-F, map-Form}
use Rattle.eb_value.specs.declared.value.Form.TheViews.{roll-Form, roll-Value}
use Rattle.eb_value.specs.declared.value.Form.TheOpen as val
use Rattle.eb_value.specs.Types.{integer, boolean, carrier, product, power}
use Rattle.eb_value.specs.Values as value

abbrev Known : (EbType → Type 0) → Type 0
Known P = (t : EbType) × P t

-- A shape says nothing by itself: its type does.
abbrev KnownShape : (EbType → Type 0) → Type 0
KnownShape P = (s : Shape) × P (roll-EbType (record { shape = s }))

-- what the induction asks at each constructor
pub record Steps (P : EbType → Type 0) : Type 0 where
  pub integer : P integer
  pub boolean : P boolean
  pub carrier : (place : ℕ) → P (carrier place)
  pub product : (s t : EbType) → P s → P t → P (product s t)
  pub power : (t : EbType) → P t → P (power t)

step : (P : EbType → Type 0) → Steps P → (y : Shape-F (KnownShape P) (Known P)) → P (roll-EbType (record { shape = roll-Shape (map-Shape (KnownShape P) (Known P) Shape EbType (λ e. e.0) (λ e. e.0) y) }))
unfolding roll-Shape denote.Hole.Carrier.roll
step P s ty.Integer = s.integer
step P s ty.Bool = s.boolean
step P s (ty.Carrier place) = s.carrier place
step P s (ty.Product a b) = s.product a.0 b.0 a.1 b.1
step P s (ty.Power a) = s.power a.0 a.1

pub ind_type : (P : EbType → Type 0) → Steps P → (t : EbType) → P t
ind_type P s =
    ind-EbType (λ f. P (roll-EbType (record { shape = f }))) P
    (λ x y is. subst (λ z. P (roll-EbType (record { shape = roll-Shape z }))) is (step P s y))
    (λ x y is. subst (λ z. P (roll-EbType z)) is y.shape.1)

abbrev KnownValue : (Value → Type 0) → Type 0
KnownValue P = (v : Value) × P v

abbrev KnownForm : (Value → Type 0) → Type 0
KnownForm P = (f : Form) × P (roll-Value (record { form = f }))

-- what the induction over the pairs of a value asks at each constructor
pub record Parts (P : Value → Type 0) : Type 0 where
  pub int : (n : ℤ) → P (value.int n)
  pub truth : (b : Bool) → P (value.truth b)
  pub atom : (s k : ℕ) → P (value.atom s k)
  pub pair : (a b : Value) → P a → P b → P (value.pair a b)
  pub set : (xs : List Value) → P (value.set xs)

part : (P : Value → Type 0) → Parts P → (y : Form-F (KnownForm P) (KnownValue P)) → P (roll-Value (record { form = roll-Form (map-Form (KnownForm P) (KnownValue P) Form Value (λ e. e.0) (λ e. e.0) y) }))
unfolding roll-Form denote.Hole.Carrier.roll
part P s (val.Int n) = s.int n
part P s (val.Bool b) = s.truth b
part P s (val.Atom c k) = s.atom c k
part P s (val.Pair a b) = s.pair a.0 b.0 a.1 b.1
part P s (val.Set es) = s.set (map (λ e. e.0) es)

pub by_pairs : (P : Value → Type 0) → Parts P → (v : Value) → P v
by_pairs P s =
    ind-Value (λ f. P (roll-Value (record { form = f }))) P
    (λ x y is. subst (λ z. P (roll-Value (record { form = roll-Form z }))) is (part P s y))
    (λ x y is. subst (λ z. P (roll-Value z)) is y.form.1)

-- what a proof by kinds of values asks
pub record Kinds (P : Value → Type 0) : Type 0 where
  pub int : (n : ℤ) → P (value.int n)
  pub truth : (b : Bool) → P (value.truth b)
  pub atom : (s k : ℕ) → P (value.atom s k)
  pub pair : (a b : Value) → P (value.pair a b)
  pub set : (xs : List Value) → P (value.set xs)

pub by_kind : (P : Value → Type 0) → Kinds P → (v : Value) → P v
by_kind P s = by_pairs P (record { int = s.int; truth = s.truth; atom = s.atom; pair = λ a b p q. s.pair a b; set = s.set })
