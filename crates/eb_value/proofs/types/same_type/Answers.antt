use Rattle.eb_value.proofs.SameTypeLaws.{same_tells}
use Rattle.eb_value.proofs.types.same_type.Goals as goal

pub returns : goal.returns
returns c = same_tells c.args.a.now c.args.b.now c.is_same.result c.is_same.ensures
