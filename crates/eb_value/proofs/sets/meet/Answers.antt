use Rattle.eb_value.specs.Sets
use Rattle.eb_value.specs.Comprehensions as set
use Rattle.eb_value.proofs.ComprehensionLaws.{equals_from, meet_is}
use Rattle.std.proofs.Common.{rules}
use Rattle.eb_value.proofs.MergeLaws.{meet_set}
use Rattle.eb_value.proofs.sets.meet.Goals as goal

pub returns-clause-is_set : goal.returns-clause-is_set
returns-clause-is_set c = search (rules, meet_set)

pub returns-clause-equals : goal.returns-clause-equals
returns-clause-equals c = equals_from (Sets.InMeet c.args.a.now c.args.b.now) c.kept.result (set.meet c.args.a.now c.args.b.now) (meet_is c.args.a.now c.args.b.now) (returns-clause-is_set c)
