use Rattle.type_equations.proofs.EquationLaws.{solves_too}
use Rattle.type_equations.proofs.laws.other_types_are_free.Goals as goal

pub returns : goal.returns
returns c = solves_too
