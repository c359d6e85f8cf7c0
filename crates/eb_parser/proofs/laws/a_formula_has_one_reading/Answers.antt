use Rattle.eb_parser.proofs.FormulaLaws.{one_reading}
use Rattle.eb_parser.proofs.laws.a_formula_has_one_reading.Goals as goal

pub returns : goal.returns
returns c k tokens from end a d h g s o = one_reading k tokens from end a d h g s o
