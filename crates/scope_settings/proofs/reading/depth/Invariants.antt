use Rattle.std.proofs.Common.{◌≡◌, map, drop}
use Rattle.scope_settings.specs.Scopes as spec
use Rattle.scope_settings.proofs.reading.depth.Given as goal

abbrev pub invariant-loop-setting : goal.invariant-loop-setting
invariant-loop-setting l = spec.depth (map (λ s. s.now) l.settings) ≡ spec.depth (map (λ s. s.now) (drop l.setting-index l.settings))
