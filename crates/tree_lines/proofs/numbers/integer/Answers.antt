use Rattle.std.proofs.Common.{sym}
use Rattle.tree_lines.proofs.NumberLaws.{not_utf8}
use Rattle.tree_lines.proofs.numbers.integer.Goals as goal

pub returns-in-Err : goal.returns-in-Err
returns-in-Err c = sym (not_utf8 c.args.text.now c.in-Err.ensures.cases.0)
