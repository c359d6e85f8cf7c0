use Rattle.eb_value.proofs.IntegerLaws.{integers}
use Rattle.eb_value.proofs.laws.integers_lie_within_bounds.Goals as goal

pub returns : goal.returns
returns c = integers
