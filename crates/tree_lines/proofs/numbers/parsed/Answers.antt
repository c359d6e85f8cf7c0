use Rattle.std.proofs.Common.{sym}
use Rattle.tree_lines.proofs.NumberLaws.{not_parsed}
use Rattle.tree_lines.proofs.numbers.parsed.Goals as goal

pub returns-in-Err : goal.returns-in-Err
returns-in-Err c = sym (not_parsed c.args.text.now c.parse.result c.in-Err.field-0 c.parse.ensures.value.0 c.in-Err.is)
