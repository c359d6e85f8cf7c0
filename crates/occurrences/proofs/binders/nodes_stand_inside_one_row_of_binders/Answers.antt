use Rattle.occurrences.proofs.BinderLaws.{one_row}
use Rattle.occurrences.proofs.binders.nodes_stand_inside_one_row_of_binders.Goals as goal

pub returns : goal.returns
returns c = λ p k a b x y. one_row p (c.nodes_have_their_places.ensures.once p) k a b x y
