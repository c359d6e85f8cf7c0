-- The types of the parts of values.
use Rattle.std.specs.Prelude.{Option, Some, None}
use Rattle.eb_value.specs.declared.types.EbType.{EbType, out-EbType}
use Rattle.eb_value.specs.declared.types.Shape.{Shape, Shape-F, out-Shape}
use Rattle.eb_value.specs.declared.types.Shape.TheOpen as ty

abbrev pub element_in : Shape-F Shape EbType → Option EbType
element_in (ty.Power t) = Some t
element_in _ = None

-- the type of the members of a set
abbrev pub element_of : EbType → Option EbType
element_of t = element_in (out-Shape (out-EbType t).shape)
