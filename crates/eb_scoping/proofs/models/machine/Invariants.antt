use Rattle.std.proofs.Common.{◌≡◌, drop}
use Rattle.eb_scoping.specs.Models.{machine_of}
use Rattle.eb_scoping.proofs.models.machine.Given as goal

abbrev pub invariant-loop-unit : goal.invariant-loop-unit
invariant-loop-unit l = machine_of l.units ≡ machine_of (drop l.unit-index l.units)
