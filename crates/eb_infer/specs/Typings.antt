-- The only typing of a model, or why it has none.
use Rattle.std.specs.Prelude.{◌≡◌, ⊤, List}
use Rattle.eb_value.specs.declared.types.EbType.{EbType}
use Rattle.eb_model.specs.declared.model.EbModel.{EbModel}
use Rattle.eb_typing.specs.Models.{Typed}
use Rattle.eb_infer.specs.declared.fault.TypeFault.{TypeFault}
use Rattle.eb_infer.specs.declared.fault.TypeFault.TheVariants as fault

-- The model has this typing and no other.
pub record IsOnly (m : EbModel) (types : List EbType) : Type 0 where
  pub typed : Typed m types
  pub only : (s : List EbType) → Typed m s → s ≡ types

-- no types are a typing
abbrev pub HasNone : EbModel → Type 0
HasNone m = (s : List EbType) → Typed m s → ⊥

-- two different typings
pub record HasSeveral (m : EbModel) : Type 0 where
  pub first : List EbType
  pub second : List EbType
  pub first_typed : Typed m first
  pub second_typed : Typed m second
  pub differ : first ≡ second → ⊥

-- why a model has no answer
abbrev pub IsFaultOf : EbModel → TypeFault → Type 0
IsFaultOf m fault.Clash = HasNone m
IsFaultOf m fault.Open = HasSeveral m
IsFaultOf m fault.Memory = ⊤
