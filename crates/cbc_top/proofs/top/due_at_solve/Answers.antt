use Rattle.std.proofs.Common.{rules, subst, ℕ, List, Err}
use Rattle.model_text.specs.declared.asked.Wanted.TheVariants as wanted
use Rattle.cbc_top.specs.steps.Reads.{ReadsModel}
use Rattle.cbc_top.proofs.Runs.{solve_stops, all_answered}
use Rattle.cbc_top.proofs.top.due_at_solve.Goals as goal

pub returns-in_err-asked-clause-lawful : goal.returns-in_err-asked-clause-lawful
returns-in_err-asked-clause-lawful g c =
    search (
      rules,
      solve_stops c.args.names c.args.budget (g.S.Source.files c.args.src.now) (g.S.Source.opened c.args.src.now) (g.S.Source.opened c.model_in.new.src) (g.S.Source.fault_name c.model_in.new.src)
          c.in_err-asked.field-0.0
          (subst (λ (z : List (List ℕ)). ReadsModel wanted.Any z (g.S.Source.files c.args.src.now) (g.S.Source.opened c.args.src.now) (g.S.Source.opened c.model_in.new.src) (g.S.Source.fault_name c.model_in.new.src) (Err c.in_err-asked.field-0.0))
          c.as_slice.ensures c.in_err-asked.ensures.read),
    )

pub returns-clause-answered : goal.returns-clause-answered
returns-clause-answered g c = all_answered c.in_ok-asked.asked c.args.budget c.in_ok-asked.asked.times c.in_ok-due.due.0 c.in_ok-due.due.1 c.in_ok-due.ensures
