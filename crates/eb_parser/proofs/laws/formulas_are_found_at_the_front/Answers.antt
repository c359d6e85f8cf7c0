use Rattle.eb_parser.proofs.FrontLaws.{front_laws}
use Rattle.eb_parser.proofs.laws.formulas_are_found_at_the_front.Goals as goal

pub returns : goal.returns
returns c = front_laws
