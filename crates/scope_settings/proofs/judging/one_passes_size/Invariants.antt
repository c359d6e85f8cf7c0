use Rattle.std.proofs.Common.{◌≡◌, map, drop}
use Rattle.std.specs.List.{list_any}
use Rattle.scope_settings.specs.Limits as spec
use Rattle.scope_settings.proofs.judging.one_passes_size.Given as goal

abbrev pub invariant-loop-setting : goal.invariant-loop-setting
invariant-loop-setting l = list_any spec.passes_size (map (λ s. s.now) l.settings) ≡ list_any spec.passes_size (map (λ s. s.now) (drop l.setting-index l.settings))
