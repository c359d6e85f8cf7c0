use Rattle.eb_scoping.specs.Sets.{has_text}
use Rattle.eb_lower.specs.Usages.{clause_variables}
use Rattle.eb_lower.proofs.FactLaws.{among_more}
use Rattle.eb_lower.proofs.facts.insert_variables.Goals as goal

pub loop-clause-preserved : goal.loop-clause-preserved
loop-clause-preserved c = λ q. among_more clause_variables c.args.clauses.now c.loop-clause.clause-index c.clause-item.result q (has_text c.insert_clause_variables.new.set q) (has_text c.loop-clause.set q) (has_text c.args.set.now q)
    c.loop-clause-test.true c.clause-item.is (c.loop-clause.invariant q) (c.in_ok-insert_clause_variables.ensures q)
