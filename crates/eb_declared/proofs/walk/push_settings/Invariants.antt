use Rattle.std.proofs.Common.{◌≡◌, ◌++◌, map, take}
use Rattle.std.specs.List.{flat_map}
use Rattle.eb_declared.specs.Parts as spec
use Rattle.eb_declared.specs.Seen as seen
use Rattle.eb_declared.proofs.walk.push_settings.Given as goal

abbrev pub invariant-loop-setting : goal.invariant-loop-setting
invariant-loop-setting l = map seen.part l.out.items ≡ map seen.part l.initial.out.items ++ flat_map spec.setting_parts (take l.setting-index l.settings)
