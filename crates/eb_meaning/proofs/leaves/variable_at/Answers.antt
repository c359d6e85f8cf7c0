use Rattle.std.proofs.Common.{sym, refl}
use Rattle.std.proofs.lemmas.Option.{slice_get_past}
use Rattle.eb_meaning.proofs.CanonicalSlots.{looked_up, looked_up_is_canonical}
use Rattle.eb_meaning.proofs.leaves.variable_at.Goals as goal

pub part_at-requires : goal.part_at-requires
part_at-requires c = looked_up_is_canonical _ _ _ c.bound.ensures.canonical c.in-Some.ensures.lookup.3

pub returns-in-Some-clause-value : goal.returns-in-Some-clause-value
returns-in-Some-clause-value c = rw (sym c.bound.ensures.bound, looked_up _ _ _ c.in-Some.ensures.lookup.3) c.part_at.ensures.value

pub returns-in-None-clause-value : goal.returns-in-None-clause-value
returns-in-None-clause-value c = rw (sym c.bound.ensures.bound, slice_get_past _ _ c.in-None.ensures.lookup.3) refl
