use Rattle.eb_value.proofs.CountLaws.{length-vals}
use Rattle.eb_value.proofs.typing.count.Goals as goal

pub returns : goal.returns
returns c = rw (length-vals c.args.scope.now c.args.ty.now) c.cardinal.ensures
