use Rattle.cbc_query.proofs.Tables.{setting_is}
use Rattle.cbc_query.proofs.known.setting_of.Goals as goal

pub returns : goal.returns
returns c = setting_is c.args.scope.now c.args.model.now c.args.types.now _ _ c.args.ranges c.in_ok-types.ensures c.in_ok-known.ensures
