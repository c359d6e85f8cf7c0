use Rattle.std.proofs.Common.{◌≡◌, ◌++◌, map, take}
use Rattle.std.specs.List.{flat_map}
use Rattle.eb_declared.specs.Parts as spec
use Rattle.eb_declared.specs.Seen as seen
use Rattle.eb_declared.proofs.walk.push_all_labelled.Given as goal

abbrev pub invariant-loop-labelled : goal.invariant-loop-labelled
invariant-loop-labelled l = map seen.part l.out.items ≡ map seen.part l.initial.out.items ++ flat_map (spec.labelled_parts (seen.space l.space) (seen.position l.position)) (take l.labelled-index l.predicates)
