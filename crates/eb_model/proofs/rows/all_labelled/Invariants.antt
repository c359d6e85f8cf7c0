use Rattle.std.proofs.Common.{drop}
use Rattle.eb_model.specs.Models as spec
use Rattle.eb_model.proofs.ReadingLaws.{IsReadUpTo}
use Rattle.eb_model.proofs.rows.all_labelled.Given as goal

abbrev pub invariant-loop-predicate : goal.invariant-loop-predicate
invariant-loop-predicate l = IsReadUpTo (spec.labelled l.scope.entries l.unit) l.predicates (drop l.predicate-index l.predicates) l.initial.names l.names l.all
