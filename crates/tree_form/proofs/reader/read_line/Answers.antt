use Rattle.std.proofs.Common.{sym, subst}
use Rattle.tree_form.specs.Lines as form
use Rattle.tree_form.proofs.LineLaws.{reading_is}
use Rattle.tree_form.proofs.reader.read_line.Goals as goal

pub returns : goal.returns
returns c = subst (form.IsReading c.args.problem.now c.args.text.now) (sym c.read.ensures) (reading_is c.args.problem.now c.args.text.now)
