use Rattle.cbc_query.proofs.Typings.{many_is}
use Rattle.cbc_query.proofs.large.has_many.Goals as goal

pub returns : goal.returns
returns c = many_is c.args.scope.now c.args.ty.now c.count.result c.count.ensures
