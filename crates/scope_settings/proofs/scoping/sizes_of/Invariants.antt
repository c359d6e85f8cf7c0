use Rattle.std.proofs.Common.{◌≡◌, map, take}
use Rattle.std.specs.List.{flat_map}
use Rattle.scope_settings.specs.Scopes.{part_sizes}
use Rattle.scope_settings.proofs.scoping.sizes_of.Given as goal

abbrev pub invariant-loop-part : goal.invariant-loop-part
invariant-loop-part l = l.sizes ≡ flat_map (part_sizes (map (λ s. s.now) l.settings)) (take l.part-index l.parts)
