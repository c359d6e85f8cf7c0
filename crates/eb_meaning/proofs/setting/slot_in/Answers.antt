use Rattle.eb_meaning.proofs.CanonicalSlots.{past_is_undefined}
use Rattle.eb_meaning.proofs.setting.slot_in.Goals as goal

pub returns-in-None : goal.returns-in-None
returns-in-None c = past_is_undefined _ _ c.in-None.ensures.lookup.3
