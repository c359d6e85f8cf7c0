use Rattle.eb_signs.proofs.SignTexts.{text_spells}
use Rattle.eb_signs.proofs.laws.a_sign_is_spelled_by_its_text.Goals as goal

pub returns : goal.returns
returns c = text_spells
