use Rattle.eb_value.specs.Sets
use Rattle.eb_value.specs.Comprehensions as set
use Rattle.eb_value.proofs.ComprehensionLaws.{equals_from, union_is}
use Rattle.std.proofs.Common.{rules}
use Rattle.eb_value.proofs.MergeLaws.{merged_set}
use Rattle.eb_value.proofs.sets.union.Goals as goal

pub returns-clause-is_set : goal.returns-clause-is_set
returns-clause-is_set c = search (rules, merged_set)

pub returns-clause-equals : goal.returns-clause-equals
returns-clause-equals c = equals_from (Sets.InUnion c.args.a.now c.args.b.now) c.merged.result (set.union c.args.a.now c.args.b.now) (union_is c.args.a.now c.args.b.now) (returns-clause-is_set c)
