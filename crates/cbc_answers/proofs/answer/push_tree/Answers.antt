use Rattle.std.proofs.Common.{rules}
use Rattle.cbc_answers.proofs.TreeTexts.{tree_parts}
use Rattle.cbc_answers.proofs.answer.push_tree.Goals as goal

pub returns : goal.returns
returns c = search (rules, tree_parts c.args.text.now.items c.args.lines.now)
