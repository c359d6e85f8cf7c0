use Rattle.std.proofs.Common.{◌∙◌}
use Rattle.eb_lower.proofs.KnownLaws.{tells_variable}
use Rattle.eb_lower.proofs.known.is_variable.Goals as goal

pub returns : goal.returns
returns c = λ us marks t. tells_variable us c.has_name.result c.args.name.now (c.has_name.ensures ∙ t.1.variables c.args.name.now)
