use Rattle.std.proofs.Common.{rules, subst, ℕ, List, Option, Err}
use Rattle.cbc_outside.specs.Outside.{Files}
use Rattle.cbc_top.specs.steps.Reads.{ReadsModel, ReadsTree}
use Rattle.model_text.specs.declared.asked.Wanted.TheVariants as wanted
use Rattle.cbc_answers.specs.Answers.{IsJudged}
use Rattle.cbc_top.proofs.Runs.{check_stops, tree_stops, check_breaks, judges}
use Rattle.cbc_top.proofs.top.due_at_check.Goals as goal

pub returns-in_err-asked-clause-lawful : goal.returns-in_err-asked-clause-lawful
returns-in_err-asked-clause-lawful g c = λ budget.
    search (
      rules,
      check_stops c.args.names c.args.tree budget (g.S.Source.files c.args.src.now) (g.S.Source.opened c.args.src.now) (g.S.Source.opened c.model_in.new.src) (g.S.Source.fault_name c.model_in.new.src)
          c.in_err-asked.field-0.0
          (subst (λ (z : List (List ℕ)). ReadsModel wanted.One z (g.S.Source.files c.args.src.now) (g.S.Source.opened c.args.src.now) (g.S.Source.opened c.model_in.new.src) (g.S.Source.fault_name c.model_in.new.src) (Err c.in_err-asked.field-0.0))
          c.as_slice.ensures c.in_err-asked.ensures.read),
    )

pub returns-in_err-tree-clause-lawful : goal.returns-in_err-tree-clause-lawful
returns-in_err-tree-clause-lawful g c = λ budget.
    search (
      rules,
      tree_stops c.args.names c.args.tree budget (g.S.Source.files c.args.src.now) (g.S.Source.opened c.args.src.now) (g.S.Source.opened c.model_in.new.src) (g.S.Source.opened c.tree_in.new.src)
          (g.S.Source.fault_name c.model_in.new.src) (g.S.Source.fault_name c.tree_in.new.src) c.in_ok-asked.asked c.in_err-tree.field-0.0
          (rw c.as_slice.ensures at c.in_ok-asked.ensures.read)
          (subst (λ (z : Option Files). ReadsTree z c.args.tree (g.S.Source.fault_name c.tree_in.new.src) (Err c.in_err-tree.field-0.0)) c.in_ok-asked.ensures.same c.in_err-tree.ensures.read)
          c.in_err-tree.ensures.tried,
    )

pub returns-in_err-due-clause-lawful : goal.returns-in_err-due-clause-lawful
returns-in_err-due-clause-lawful g c = λ budget.
    search (
      rules,
      check_breaks c.args.names c.args.tree budget (g.S.Source.files c.args.src.now) (g.S.Source.opened c.args.src.now) (g.S.Source.opened c.model_in.new.src) (g.S.Source.opened c.tree_in.new.src)
          (g.S.Source.fault_name c.model_in.new.src) (g.S.Source.fault_name c.tree_in.new.src) c.in_ok-asked.asked c.in_ok-tree.tree
          (rw c.as_slice.ensures at c.in_ok-asked.ensures.read) (rw c.in_ok-asked.ensures.same at c.in_ok-tree.ensures.read) c.in_ok-tree.ensures.tried,
    )

pub returns-clause-lawful : goal.returns-clause-lawful
returns-clause-lawful g c = λ budget.
    let judged : IsJudged c.in_ok-asked.asked c.in_ok-tree.tree c.in_ok-due.due.0 c.in_ok-due.due.1 = rw c.as_slice-2.ensures at c.in_ok-due.ensures in
    judges c.args.names c.args.tree budget (g.S.Source.files c.args.src.now) (g.S.Source.opened c.args.src.now) (g.S.Source.opened c.model_in.new.src) (g.S.Source.opened c.tree_in.new.src)
    (g.S.Source.fault_name c.model_in.new.src) (g.S.Source.fault_name c.tree_in.new.src) c.in_ok-asked.asked c.in_ok-tree.tree c.in_ok-due.due
    (rw c.as_slice.ensures at c.in_ok-asked.ensures.read) (rw c.in_ok-asked.ensures.same at c.in_ok-tree.ensures.read) c.in_ok-tree.ensures.tried judged
