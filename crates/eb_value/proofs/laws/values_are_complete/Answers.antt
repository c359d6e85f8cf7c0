use Rattle.eb_value.proofs.Completeness.{complete}
use Rattle.eb_value.proofs.laws.values_are_complete.Goals as goal

pub returns : goal.returns
returns c = complete
