use Rattle.refutation_trees.proofs.ClosingLines.{tree_closes, closing_tree, holds_anywhere}
use Rattle.refutation_trees.proofs.laws.closing_lines_are_trees.Goals as goal

pub returns : goal.returns
returns c = record {
  tree = λ task may at tree h. tree_closes h;
  lines = λ task may at lines l. let w = closing_tree l in (w.tree, w.holds, w.are);
  anywhere = λ task may at tree h. holds_anywhere h;
}
