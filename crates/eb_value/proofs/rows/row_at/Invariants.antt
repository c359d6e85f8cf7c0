use Rattle.std.proofs.Common.{◌≡◌, [], drop}
use Rattle.eb_value.specs.steps.Rows as spec
use Rattle.eb_value.proofs.rows.row_at.Given as goal

abbrev pub invariant-loop-ty : goal.invariant-loop-ty
invariant-loop-ty l = spec.row_at l.names l.scope (drop l.ty-index l.types) l.values l.rest ≡ spec.row_at l.names l.scope l.types [] l.text
