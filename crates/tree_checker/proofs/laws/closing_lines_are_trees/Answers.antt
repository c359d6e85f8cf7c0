use Rattle.tree_checker.proofs.Leads.{tree_leads, leads_tree}
use Rattle.tree_checker.proofs.laws.closing_lines_are_trees.Goals as goal

pub returns-clause-tree : goal.returns-clause-tree
returns-clause-tree c = λ facts store tree holds. tree_leads facts store tree holds

pub returns-clause-lines : goal.returns-clause-lines
returns-clause-lines c = λ facts store lines leads. leads_tree facts store lines leads
