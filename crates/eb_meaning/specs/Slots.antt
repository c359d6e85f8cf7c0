-- Slots whose values are canonical: every set in them, at every depth, is its members in ascending order.
use Rattle.std.specs.Prelude.{List, [], ◌∷◌, Some, None}
use Rattle.eb_value.specs.declared.value.Value.{Value}
use Rattle.eb_value.specs.Canonical.{IsCanonical}
use Rattle.eb_meaning.specs.Meaning.{Slot}

pub data AreCanonicalSlots : List Slot → Type 0 where
  none : AreCanonicalSlots []
  undefined : {slots : List Slot} → AreCanonicalSlots slots → AreCanonicalSlots (None ∷ slots)
  value : {v : Value} {slots : List Slot} → IsCanonical v → AreCanonicalSlots slots → AreCanonicalSlots (Some v ∷ slots)
