use Rattle.std.proofs.Common.{◌≡◌, ◌++◌, map, take}
use Rattle.std.specs.List.{flat_map}
use Rattle.eb_declared.specs.Declarations as spec
use Rattle.eb_declared.specs.steps.Written as seen
use Rattle.eb_declared.proofs.declarations.+walking.Given as goal

abbrev pub invariant-push_row-loop-member : goal.invariant-push_row-loop-member
invariant-push_row-loop-member l = map seen.declaration l.out.items ≡ map seen.declaration l.initial.out.items ++ flat_map spec.formula_declarations (take l.member-index l.members)
