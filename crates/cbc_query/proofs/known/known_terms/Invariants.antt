use Rattle.std.proofs.Common.{◌≡◌, drop}
use Rattle.cbc_query.specs.Settings.{terms_from}
use Rattle.cbc_query.specs.steps.Tables.{filled}
use Rattle.cbc_query.proofs.known.known_terms.Given as goal

abbrev pub invariant-loop-part : goal.invariant-loop-part
invariant-loop-part l = filled l.known (terms_from l.scope l.types l.constants (drop l.part-index l.model.parts)) ≡ filled l.initial.known (terms_from l.scope l.types 0 l.model.parts)
