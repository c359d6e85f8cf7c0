use Rattle.std.proofs.Common.{◌≡◌, map, take}
use Rattle.std.specs.List.{flat_map}
use Rattle.scope_settings.specs.Scopes.{unit_settings}
use Rattle.scope_settings.proofs.reading.settings_of.Given as goal

abbrev pub invariant-loop-unit : goal.invariant-loop-unit
invariant-loop-unit l = map (λ s. s.now) l.settings.items ≡ flat_map unit_settings (take l.unit-index l.units)
