use Rattle.problem_nodes.proofs.FirstLaws.{first_below}
use Rattle.problem_nodes.proofs.nodes.Nodes.first_part.Goals as goal

pub returns : goal.returns
returns c = first_below c.args.self.now c.args.number c.requires
