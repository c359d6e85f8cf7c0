use Rattle.std.proofs.Common.{drop}
use Rattle.eb_typing.specs.steps.Demanding as model
use Rattle.eb_typing.proofs.ModelLaws.{Assigned}
use Rattle.eb_typing.proofs.model.becomes_equal.Given as goal

abbrev pub invariant-loop-variable : goal.invariant-loop-variable
invariant-loop-variable l = Assigned l.asked (model.becomes_equal l.asked l.variables l.values l.initial.out) l.out (drop l.variable-index l.variables) l.rest
