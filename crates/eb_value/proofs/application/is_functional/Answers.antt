use Rattle.std.proofs.Common.{◌∙◌}
use Rattle.eb_value.proofs.FunctionLaws.{functional_is}
use Rattle.eb_value.proofs.application.is_functional.Goals as goal

pub returns : goal.returns
returns c = c.has_distinct_firsts.ensures ∙ functional_is c.args.r.now c.requires
