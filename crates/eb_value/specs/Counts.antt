-- How many values a type has in a scope.
use Rattle.std.specs.Prelude.{ℕ, ◌*◌, ◌^◌, ℤ, pos, ◌+ℤ◌}
use Rattle.std.specs.Int.{int_gap}
use Rattle.eb_value.specs.declared.scope.Scope.{Scope}
use Rattle.eb_value.specs.declared.types.EbType.{EbType, fold-EbType}
use Rattle.eb_value.specs.declared.types.Shape.{Shape-F}
use Rattle.eb_value.specs.declared.types.Shape.TheOpen as ty
use Rattle.eb_value.specs.Typing.{size_of}

abbrev pub integers_within : ℤ → ℤ → ℕ
integers_within lo hi = int_gap lo (hi +ℤ pos 1)

abbrev pub cardinal_step : Scope → Shape-F ℕ ℕ → ℕ
cardinal_step scope ty.Integer = integers_within scope.lo scope.hi
cardinal_step scope ty.Bool = 2
cardinal_step scope (ty.Carrier place) = size_of scope.sizes place
cardinal_step scope (ty.Product m n) = m * n
cardinal_step scope (ty.Power n) = 2 ^ n

abbrev pub cardinal : Scope → EbType → ℕ
cardinal scope = fold-EbType ℕ ℕ (cardinal_step scope) (λ t. t.shape)
