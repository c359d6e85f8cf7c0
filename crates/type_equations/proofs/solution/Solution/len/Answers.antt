use Rattle.std.proofs.Common.{◌∙◌, length, sym, ap}
use Rattle.eb_value.specs.Types.{integer}
use Rattle.type_equations.specs.Solutions.{type_at}
use Rattle.type_equations.proofs.SolutionLaws.{types_count}
use Rattle.type_equations.proofs.solution.Solution.len.Goals as goal

pub returns : goal.returns
returns c = sym (types_count c.self.inside.asked (type_at integer c.self.inside.store)) ∙ ap length c.self.view_is
