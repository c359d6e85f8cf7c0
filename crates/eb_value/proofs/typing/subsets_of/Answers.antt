use Rattle.eb_value.proofs.CountLaws.{pow_saturates}
use Rattle.eb_value.proofs.typing.subsets_of.Goals as goal

pub returns-else-members-lt64 : goal.returns-else-members-lt64
returns-else-members-lt64 c = pow_saturates c.args.members c.if-members-lt64.false
