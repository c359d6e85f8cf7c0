use Rattle.std.proofs.Common.{◌+◌, ◌*◌, length}
use Rattle.type_equations.specs.steps.Settling.{fresh_count}
use Rattle.type_equations.proofs.DepthLaws.{IsDeepening}
use Rattle.type_equations.proofs.settling.settle.Given as goal

abbrev pub invariant-loop-last : goal.invariant-loop-last
invariant-loop-last l = IsDeepening l.store l.number l.fn.marks l.marks l.depths l.path.items

abbrev pub decreases-loop-last : goal.decreases-loop-last
decreases-loop-last l = 2 * fresh_count l.marks + length l.path.items
