-- Types, by their parts.
use Rattle.std.specs.Prelude.{ℕ}
use Rattle.eb_value.specs.declared.types.EbType.{EbType, roll-EbType}
use Rattle.eb_value.specs.declared.types.Shape.TheVariants as shape

abbrev pub integer : EbType
integer = roll-EbType (record { shape = shape.Integer })

abbrev pub boolean : EbType
boolean = roll-EbType (record { shape = shape.Bool })

abbrev pub carrier : ℕ → EbType
carrier place = roll-EbType (record { shape = shape.Carrier place })

abbrev pub product : EbType → EbType → EbType
product s t = roll-EbType (record { shape = shape.Product s t })

abbrev pub power : EbType → EbType
power t = roll-EbType (record { shape = shape.Power t })
