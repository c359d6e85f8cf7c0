use Rattle.std.proofs.Common.{◌≤◌, take}
use Rattle.type_equations.specs.Equations.{AreBelow}
use Rattle.eb_typing.proofs.problem.total_of.Given as goal

abbrev pub invariant-loop-equation : goal.invariant-loop-equation
invariant-loop-equation l = (l.asked ≤ l.total) × AreBelow l.total (take l.equation-index l.equations)
