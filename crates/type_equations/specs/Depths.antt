-- How deep types are.
use Rattle.std.specs.Prelude.{⊤, ℕ, ◌+◌, ◌≤◌, max, List, [], ◌∷◌}
use Rattle.eb_value.specs.declared.types.EbType.{EbType, fold-EbType}
use Rattle.eb_value.specs.declared.types.Shape.{Shape-F}
use Rattle.eb_value.specs.declared.types.Shape.TheOpen as ty

abbrev pub depth_step : Shape-F ℕ ℕ → ℕ
depth_step ty.Integer = 0
depth_step ty.Bool = 0
depth_step (ty.Carrier place) = 0
depth_step (ty.Product m n) = max m n + 1
depth_step (ty.Power n) = n + 1

-- how many products and power sets stand in one another: INT has depth 0, POW(INT ** BOOL) has depth 2
abbrev pub depth : EbType → ℕ
depth = fold-EbType ℕ ℕ depth_step (λ t. t.shape)

-- the type is at most 1,000 deep
abbrev pub IsShallow : EbType → Type 0
IsShallow t = depth t ≤ 1000

-- each type is at most 1,000 deep
abbrev pub AreShallow : List EbType → Type 0
AreShallow [] = ⊤
AreShallow (t ∷ ts) = IsShallow t × AreShallow ts
