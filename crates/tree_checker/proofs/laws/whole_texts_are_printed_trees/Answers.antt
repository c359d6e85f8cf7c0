use Rattle.std.proofs.Common.{sym, subst₂}
use Rattle.tree_checker.specs.Texts as texts
use Rattle.tree_checker.proofs.PrintedTrees.{printed_whole, whole_printed}
use Rattle.tree_checker.proofs.laws.whole_texts_are_printed_trees.Goals as goal

pub returns-clause-whole : goal.returns-clause-whole
returns-clause-whole c = λ scope problem first text count p.
    subst₂ (λ text n. texts.IsWholeText (texts.task_of scope problem first) text n) (sym p.printed) (sym p.open_lines)
    (printed_whole scope problem first p.tree p.headers p.holds p.small p.are_headers)

pub returns-clause-printed : goal.returns-clause-printed
returns-clause-printed c = λ scope problem first text count whole. whole_printed (texts.task_of scope problem first) text count whole
