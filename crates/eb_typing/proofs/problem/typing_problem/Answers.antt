use Rattle.std.proofs.Common.{rules}
use Rattle.eb_typing.proofs.Equations.{equated}
use Rattle.eb_typing.proofs.problem.typing_problem.Goals as goal

pub returns-clause-equated : goal.returns-clause-equated
returns-clause-equated c = equated c.args.model.now c.parts.new.out (search rules)
