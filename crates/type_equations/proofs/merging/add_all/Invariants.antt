use Rattle.std.proofs.Common.{◌≡◌, [], length, take}
use Rattle.type_equations.specs.steps.Merging.{Says}
use Rattle.type_equations.proofs.merging.add_all.Given as goal

abbrev pub invariant-loop-equation : goal.invariant-loop-equation
invariant-loop-equation l = Says (length l.fn.store) (take l.equation-index l.equations) l.store × (l.pairs.items ≡ [])
