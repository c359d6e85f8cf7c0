use Rattle.eb_meaning.proofs.CanonicalSlots.{lent_is_canonical}
use Rattle.eb_meaning.proofs.setting.Setting.slot.Goals as goal

pub returns-clause-canonical : goal.returns-clause-canonical
returns-clause-canonical c = lent_is_canonical _ _ _ c.self.invariant.0 c.slot_in.ensures
