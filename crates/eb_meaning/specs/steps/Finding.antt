-- What stands for a value: one that is lent, or one that was made.
use Rattle.eb_value.specs.declared.value.Value.{Value}
use Rattle.eb_meaning.specs.declared.setting.Place.{Place}
use Rattle.eb_meaning.specs.declared.setting.Place.TheVariants as place

abbrev pub value_in : Place → Value
value_in (place.Lent v) = v.now
value_in (place.Owned v) = v
