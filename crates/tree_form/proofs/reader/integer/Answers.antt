use Rattle.std.proofs.Common.{sym}
use Rattle.tree_form.proofs.NumberLaws.{not_utf8}
use Rattle.tree_form.proofs.reader.integer.Goals as goal

pub returns-in-Err : goal.returns-in-Err
returns-in-Err c = sym (not_utf8 c.args.text.now c.in-Err.ensures.cases.0)
