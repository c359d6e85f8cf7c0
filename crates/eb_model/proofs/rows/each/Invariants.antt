use Rattle.std.proofs.Common.{drop}
use Rattle.eb_resolved.specs.Resolving.{resolved}
use Rattle.eb_model.proofs.ReadingLaws.{IsReadUpTo}
use Rattle.eb_model.proofs.rows.each.Given as goal

abbrev pub invariant-loop-formula : goal.invariant-loop-formula
invariant-loop-formula l = IsReadUpTo (resolved l.scope.entries) l.formulas (drop l.formula-index l.formulas) l.initial.names l.names l.all
