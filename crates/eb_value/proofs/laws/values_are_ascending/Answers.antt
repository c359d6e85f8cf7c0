use Rattle.eb_value.proofs.ValsLaws.{ascending-vals}
use Rattle.eb_value.proofs.laws.values_are_ascending.Goals as goal

pub returns : goal.returns
returns c = ascending-vals
