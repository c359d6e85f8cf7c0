use Rattle.std.proofs.Common.{◌≡◌, drop}
use Rattle.std.specs.List.{list_any}
use Rattle.model_text.specs.Asking as spec
use Rattle.model_text.proofs.asking.has_machine.Given as goal

abbrev pub invariant-loop-unit : goal.invariant-loop-unit
invariant-loop-unit l = list_any spec.is_machine l.units ≡ list_any spec.is_machine (drop l.unit-index l.units)
