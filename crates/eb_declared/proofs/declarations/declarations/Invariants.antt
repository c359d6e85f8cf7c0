use Rattle.std.proofs.Common.{◌≡◌, map, take}
use Rattle.std.specs.List.{flat_map}
use Rattle.eb_declared.specs.Declarations as spec
use Rattle.eb_declared.specs.Seen as held
use Rattle.eb_declared.specs.steps.Written as seen
use Rattle.eb_declared.proofs.declarations.declarations.Given as goal

abbrev pub invariant-loop-part : goal.invariant-loop-part
invariant-loop-part l = map seen.declaration l.found.items ≡ flat_map (λ p. spec.part_declarations (held.part p)) (take l.part-index l.parts)
