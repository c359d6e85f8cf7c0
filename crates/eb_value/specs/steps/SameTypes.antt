-- Whether two types are one, as the code tells it part by part. It is a means of proof.
use Rattle.std.specs.Prelude.{Bool, true, false, ◌&&◌, ◌==◌}
use Rattle.eb_value.specs.declared.types.EbType.{EbType, out-EbType, fold-EbType}
use Rattle.eb_value.specs.declared.types.Shape.{Shape, Shape-F, out-Shape}
use Rattle.eb_value.specs.declared.types.Shape.TheOpen as ty

-- one level of a type
abbrev pub layer : EbType → Shape-F Shape EbType
layer t = out-Shape (out-EbType t).shape

abbrev pub same_step : Shape-F (EbType → Bool) (EbType → Bool) → Shape-F Shape EbType → Bool
same_step ty.Integer ty.Integer = true
same_step ty.Bool ty.Bool = true
same_step (ty.Carrier c) (ty.Carrier d) = c == d
same_step (ty.Product f g) (ty.Product s t) = f s && g t
same_step (ty.Power f) (ty.Power t) = f t
same_step _ _ = false

abbrev pub same_type : EbType → EbType → Bool
same_type = fold-EbType (EbType → Bool) (EbType → Bool) (λ s t. same_step s (layer t)) (λ t. t.shape)
