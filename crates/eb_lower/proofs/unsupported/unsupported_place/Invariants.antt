use Rattle.std.proofs.Common.{◌≡◌, [], take}
use Rattle.std.specs.List.{flat_map}
use Rattle.eb_lower.specs.Unsupported.{unit_places}
use Rattle.eb_lower.proofs.unsupported.unsupported_place.Given as goal

abbrev pub invariant-loop-unit : goal.invariant-loop-unit
invariant-loop-unit l = flat_map unit_places (take l.unit-index l.units) ≡ []
