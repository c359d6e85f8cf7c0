-- Equations whose solutions are the typings of a model.
use Rattle.std.specs.Prelude.{◌≡◌, ℕ, List}
use Rattle.eb_value.specs.declared.types.EbType.{EbType}
use Rattle.eb_model.specs.declared.model.EbModel.{EbModel}
use Rattle.type_equations.specs.declared.equation.Equation.{Equation}
use Rattle.type_equations.specs.Equations.{Solves, types_below}
use Rattle.eb_typing.specs.Models.{Typed}

-- the equations say of the first numbers that their types are a typing of the model
pub record Equated (m : EbModel) (asked : ℕ) (equations : List Equation) : Type 0 where
  pub sound : (σ : ℕ → EbType) → Solves σ equations → Typed m (types_below asked σ)
  pub complete : (types : List EbType) → Typed m types → (σ : ℕ → EbType) × Solves σ equations × (types_below asked σ ≡ types)
