use Rattle.std.proofs.Common.{◌≡◌, ◌++◌, map, take}
use Rattle.std.specs.List.{flat_map}
use Rattle.eb_scoping.specs.FreeNames.{seen}
use Rattle.eb_scoping.specs.steps.FreeByParts.{free_by_parts}
use Rattle.eb_scoping.proofs.uses.+walking.Given as goal

abbrev pub invariant-push_row-loop-member : goal.invariant-push_row-loop-member
invariant-push_row-loop-member l = map seen l.out.items ≡ map seen l.initial.out.items ++ flat_map free_by_parts (take l.member-index l.members)
