use Rattle.std.proofs.Common.{◌∙◌, subst, sym, ap, List, ℕ}
use Rattle.cbc_answers.specs.Answers.{AreAnswers}
use Rattle.cbc_answers.specs.steps.Repeating.{repeated}
use Rattle.cbc_answers.proofs.Witnesses.{asked_problem, all_answers, nothing_asked}
use Rattle.cbc_answers.proofs.answering.solved.Goals as goal

pub answered-requires-clause-same : goal.answered-requires-clause-same
answered-requires-clause-same c = asked_problem c.args.asked.now c.in-Some.problem c.requires c.in-Some.is

pub returns-in_ok-all-in-Some : goal.returns-in_ok-all-in-Some
returns-in_ok-all-in-Some c =
    subst (λ (z : List ℕ). AreAnswers c.args.asked.now c.args.budget c.args.asked.now.times z c.in_ok-bytes-in-Some.status) (sym (c.in_ok-all-in-Some.ensures ∙ ap (repeated c.args.asked.now.times) c.as_slice.ensures))
    (all_answers c.args.asked.now c.in-Some.problem c.args.budget c.in_ok-bytes-in-Some.bytes c.in_ok-bytes-in-Some.status c.requires c.in-Some.is c.in_ok-bytes-in-Some.ensures)

pub returns-in-None : goal.returns-in-None
returns-in-None c = rw c.new.ensures (nothing_asked c.args.asked.now c.args.budget c.requires c.in-None.is)
