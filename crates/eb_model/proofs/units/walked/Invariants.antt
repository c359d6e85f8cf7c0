use Rattle.std.proofs.Common.{drop}
use Rattle.eb_scoping.specs.Models.{marked}
use Rattle.eb_model.specs.Models as spec
use Rattle.eb_model.proofs.Marking.{Marked}
use Rattle.eb_model.proofs.units.walked.Given as goal

abbrev pub invariant-loop-unit : goal.invariant-loop-unit
invariant-loop-unit l = Marked (spec.one_unit l.scope.entries) (spec.walk l.scope.entries (marked l.units l.marks)) l.walker (drop l.unit-index l.units) l.rest
