use Rattle.eb_units.proofs.TextLaws.{one_reading}
use Rattle.eb_units.proofs.laws.a_text_has_one_reading.Goals as goal

pub returns : goal.returns
returns c ts us vs h k r q = one_reading c.formulas_are_found_at_the_front.ensures ts us vs h k r q
