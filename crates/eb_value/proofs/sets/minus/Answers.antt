use Rattle.eb_value.specs.Sets
use Rattle.eb_value.specs.Comprehensions as set
use Rattle.eb_value.proofs.ComprehensionLaws.{equals_from, minus_is}
use Rattle.std.proofs.Common.{rules}
use Rattle.eb_value.proofs.MergeLaws.{minus_set}
use Rattle.eb_value.proofs.sets.minus.Goals as goal

pub returns-clause-is_set : goal.returns-clause-is_set
returns-clause-is_set c = search (rules, minus_set)

pub returns-clause-equals : goal.returns-clause-equals
returns-clause-equals c = equals_from (Sets.InMinus c.args.a.now c.args.b.now) c.kept.result (set.minus c.args.a.now c.args.b.now) (minus_is c.args.a.now c.args.b.now) (returns-clause-is_set c)
