use Rattle.tree_checker.proofs.Sound.{no_solution}
use Rattle.tree_checker.proofs.laws.accepted_text_refutes.Goals as goal

pub returns : goal.returns
returns c = λ scope problem text accepted values solution. no_solution scope problem text accepted values solution
