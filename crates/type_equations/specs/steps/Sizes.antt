-- The sizes of types.
use Rattle.std.specs.Prelude.{ℕ, ◌+◌, ◌*◌}
use Rattle.eb_value.specs.declared.types.EbType.{EbType, fold-EbType}
use Rattle.eb_value.specs.declared.types.Shape.{Shape-F}
use Rattle.eb_value.specs.declared.types.Shape.TheOpen as ty

abbrev pub size_step : Shape-F ℕ ℕ → ℕ
size_step ty.Integer = 0
size_step ty.Bool = 0
size_step (ty.Carrier place) = 0
size_step (ty.Product m n) = m + n + 1
size_step (ty.Power n) = n + 1

-- how many products and power sets a type is made of
abbrev pub size : EbType → ℕ
size = fold-EbType ℕ ℕ size_step (λ t. t.shape)

-- what falls along parts and along links, where there are so many numbers
abbrev pub weight : (ℕ → EbType) → ℕ → ℕ → ℕ
weight σ count number = size (σ number) * count + number
