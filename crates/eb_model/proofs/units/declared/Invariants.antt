use Rattle.std.proofs.Common.{◌≡◌, ◌++◌, drop}
use Rattle.eb_model.specs.Models as spec
use Rattle.eb_model.proofs.units.declared.Given as goal

abbrev pub invariant-loop-part : goal.invariant-loop-part
invariant-loop-part l = spec.declared_in l.parts ≡ l.entries ++ spec.declared_in (drop l.part-index l.parts)
