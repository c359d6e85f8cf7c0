use Rattle.problem_nodes.proofs.FirstLaws.{fewer, first_within, second_below}
use Rattle.problem_nodes.proofs.nodes.Nodes.second_part.Goals as goal

pub first_part-requires : goal.first_part-requires
first_part-requires c = fewer c.args.self.now c.args.number c.requires

pub end-requires : goal.end-requires
end-requires c = first_within c.args.self.now c.args.number c.first_part.result (fewer c.args.self.now c.args.number c.requires) c.first_part.ensures

pub returns : goal.returns
returns c = second_below c.args.self.now c.args.number c.first_part.result c.end.result c.requires c.first_part.ensures c.end.ensures
