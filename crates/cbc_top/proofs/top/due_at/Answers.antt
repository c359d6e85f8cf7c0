use Rattle.std.proofs.Common.{rules}
use Rattle.cbc_words.specs.declared.action.Action.TheVariants as action
use Rattle.cbc_top.proofs.Runs.{due_at_action}
use Rattle.cbc_top.proofs.top.due_at.Goals as goal

pub returns-in-Solve-clause-lawful : goal.returns-in-Solve-clause-lawful
returns-in-Solve-clause-lawful g c =
    due_at_action _ c.in-Ok.command (action.Solve c.in-Solve.files) (g.S.Source.files c.args.src.now) (g.S.Source.opened c.args.src.now) (g.S.Source.opened c.due_at_solve.new.src) (g.S.Source.fault_name c.due_at_solve.new.src)
    c.due_at_solve.result (search rules) (search rules) (search (rules, c.due_at_solve.ensures.lawful))

pub returns-in-Check-clause-lawful : goal.returns-in-Check-clause-lawful
returns-in-Check-clause-lawful g c =
    due_at_action _ c.in-Ok.command (action.Check c.in-Check.files c.in-Check.tree) (g.S.Source.files c.args.src.now) (g.S.Source.opened c.args.src.now) (g.S.Source.opened c.due_at_check.new.src) (g.S.Source.fault_name c.due_at_check.new.src)
    c.due_at_check.result (search rules) (search rules) (search (rules, c.due_at_check.ensures.lawful c.in-Ok.command.budget))
