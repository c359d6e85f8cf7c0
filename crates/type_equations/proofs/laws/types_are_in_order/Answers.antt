use Rattle.type_equations.proofs.SolutionLaws.{types_count, type_below}
use Rattle.type_equations.proofs.laws.types_are_in_order.Goals as goal

pub returns-clause-count : goal.returns-clause-count
returns-clause-count c = types_count

pub returns-clause-places : goal.returns-clause-places
returns-clause-places c = type_below
