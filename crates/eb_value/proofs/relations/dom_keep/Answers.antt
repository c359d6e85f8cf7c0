use Rattle.eb_value.specs.Relations
use Rattle.eb_value.specs.Comprehensions as set
use Rattle.eb_value.proofs.ComprehensionLaws.{equals_from, dom_keep_is}
use Rattle.std.proofs.Common.{rules}
use Rattle.eb_value.proofs.RelationLaws.{dom_keep_set}
use Rattle.eb_value.proofs.relations.dom_keep.Goals as goal

pub returns-clause-is_set : goal.returns-clause-is_set
returns-clause-is_set c = search (rules, dom_keep_set)

pub returns-clause-equals : goal.returns-clause-equals
returns-clause-equals c = equals_from (Relations.InDomKeep c.args.s.now c.args.r.now) c.kept.result (set.dom_keep c.args.s.now c.args.r.now) (dom_keep_is c.args.s.now c.args.r.now) (returns-clause-is_set c)
