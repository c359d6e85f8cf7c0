use Rattle.std.proofs.Common.{drop}
use Rattle.eb_model.specs.Models as spec
use Rattle.eb_model.proofs.ReadingLaws.{IsReadUpTo}
use Rattle.eb_model.proofs.rows.actions.Given as goal

abbrev pub invariant-loop-one : goal.invariant-loop-one
invariant-loop-one l = IsReadUpTo (spec.action_of l.scope.entries) l.actions (drop l.one-index l.actions) l.initial.names l.names l.all
