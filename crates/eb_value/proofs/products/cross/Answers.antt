use Rattle.eb_value.specs.Relations
use Rattle.eb_value.specs.Comprehensions as set
use Rattle.eb_value.proofs.ComprehensionLaws.{equals_from, cross_is}
use Rattle.std.proofs.Common.{rules}
use Rattle.eb_value.proofs.ProductLaws.{cross_set}
use Rattle.eb_value.proofs.products.cross.Goals as goal

pub returns-clause-is_set : goal.returns-clause-is_set
returns-clause-is_set c = search (rules, cross_set)

pub returns-clause-equals : goal.returns-clause-equals
returns-clause-equals c = equals_from (Relations.InCross c.args.a.now c.args.b.now) c.pairs.result (set.cross c.args.a.now c.args.b.now) (cross_is c.args.a.now c.args.b.now) (returns-clause-is_set c)
