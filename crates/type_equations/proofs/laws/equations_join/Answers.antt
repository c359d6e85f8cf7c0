use Rattle.type_equations.proofs.EquationLaws.{solves_append, solves_parts, below_append, below_more}
use Rattle.type_equations.proofs.laws.equations_join.Goals as goal

pub returns-clause-solved : goal.returns-clause-solved
returns-clause-solved c = solves_append

pub returns-clause-solves : goal.returns-clause-solves
returns-clause-solves c = solves_parts

pub returns-clause-below : goal.returns-clause-below
returns-clause-below c = below_append

pub returns-clause-more : goal.returns-clause-more
returns-clause-more c = below_more
