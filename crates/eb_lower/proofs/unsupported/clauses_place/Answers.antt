use Rattle.eb_lower.specs.Unsupported.{clause_places}
use Rattle.eb_lower.proofs.PlaceLaws.{first_at}
use Rattle.eb_lower.proofs.unsupported.clauses_place.Goals as goal

pub returns-in-Some : goal.returns-in-Some
returns-in-Some c = first_at clause_places c.args.clauses.now c.loop-clause.clause-index c.clause-item.result c.in-Some.place c.loop-clause-test.true c.clause-item.is c.loop-clause.invariant c.in-Some.ensures
