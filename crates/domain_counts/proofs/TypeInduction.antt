-- Induction over types by the plain constructors.
use Rattle.std.proofs.Common.{ℕ, subst}
use Rattle.eb_value.specs.declared.types.EbType.{EbType, ind-EbType}
use Rattle.eb_value.specs.declared.types.Shape.{Shape, Shape-F, map-Shape}
use Rattle.eb_value.specs.declared.types.Shape.TheViews.{roll-Shape, roll-EbType}
use Rattle.eb_value.specs.declared.types.Shape.TheOpen as ty
use Rattle.eb_value.specs.Types.{integer, boolean, carrier, product, power}

abbrev Known : (EbType → Type 0) → Type 0
Known P = (t : EbType) × P t

-- A shape says nothing by itself: its type does.
abbrev KnownShape : (EbType → Type 0) → Type 0
KnownShape P = (s : Shape) × P (roll-EbType (record { shape = s }))

-- what the induction asks at each constructor
pub record Steps (P : EbType → Type 0) : Type 0 where
  pub integer : P integer
  pub boolean : P boolean
  pub carrier : (place : ℕ) → P (carrier place)
  pub product : (s t : EbType) → P s → P t → P (product s t)
  pub power : (t : EbType) → P t → P (power t)

step : (P : EbType → Type 0) → Steps P → (y : Shape-F (KnownShape P) (Known P)) → P (roll-EbType (record { shape = roll-Shape (map-Shape (KnownShape P) (Known P) Shape EbType (λ e. e.0) (λ e. e.0) y) }))
unfolding roll-Shape denote.Hole.Carrier.roll
step P s ty.Integer = s.integer
step P s ty.Bool = s.boolean
step P s (ty.Carrier place) = s.carrier place
step P s (ty.Product a b) = s.product a.0 b.0 a.1 b.1
step P s (ty.Power a) = s.power a.0 a.1

pub ind_type : (P : EbType → Type 0) → Steps P → (t : EbType) → P t
ind_type P s =
    ind-EbType (λ f. P (roll-EbType (record { shape = f }))) P
    (λ x y is. subst (λ z. P (roll-EbType (record { shape = roll-Shape z }))) is (step P s y))
    (λ x y is. subst (λ z. P (roll-EbType z)) is y.shape.1)
