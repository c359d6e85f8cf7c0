use Rattle.eb_scoping.proofs.WalkLaws.{walk_answers}
use Rattle.eb_scoping.proofs.contexts.walk_reaches.Goals as goal

pub returns-clause-answer : goal.returns-clause-answer
returns-clause-answer c = walk_answers c.args.units.now c.args.walk.now c.search.new.walk c.args.name.now c.search.result c.search.ensures.walk c.search.ensures.found c.search.ensures.ends
