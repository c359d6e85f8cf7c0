use Rattle.eb_value.proofs.Ascending.{rises, same_members}
use Rattle.eb_value.proofs.laws.members_determine_ascending_lists.Goals as goal

pub returns : goal.returns
returns c = λ xs ys h k s. same_members xs ys (rises xs h) (rises ys k) s
