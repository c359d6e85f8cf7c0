use Rattle.eb_value.proofs.RowLaws.{told}
use Rattle.eb_value.proofs.RowBytes.{values_stay}
use Rattle.eb_value.proofs.laws.values_are_told_by_their_texts.Goals as goal

pub returns-clause-told : goal.returns-clause-told
returns-clause-told c = λ names readable scope fit. told names scope readable fit

pub returns-clause-stays : goal.returns-clause-stays
returns-clause-stays c = values_stay
