use Rattle.std.proofs.Common.{◌≡◌, ◌++◌, map, take}
use Rattle.scope_settings.proofs.reading.push_settings.Given as goal

abbrev pub invariant-loop-setting : goal.invariant-loop-setting
invariant-loop-setting l = map (λ s. s.now) l.settings.items ≡ map (λ s. s.now) l.initial.settings.items ++ take l.setting-index l.block
