use Rattle.std.proofs.Common.{rules}
use Rattle.model_text.proofs.AskingLaws.{asked_problem}
use Rattle.model_text.proofs.text.asked_text.Goals as goal

pub returns-in_err-typed-clause-cause : goal.returns-in_err-typed-clause-cause
returns-in_err-typed-clause-cause c = search (rules, c.in_err-typed.ensures.cause c.args.wanted)

pub returns-clause-lawful : goal.returns-clause-lawful
returns-clause-lawful c = record {
  typed = c.in_ok-typed.ensures.read.scoped.formed.typed.only.typed;
  small = c.in_ok-typed.ensures.small;
  integers = c.in_ok-times.ensures.today.integers;
  few = c.in_ok-typed.ensures.few;
  problem = asked_problem c.in_ok-typed.typed.units c.in_ok-typed.typed.model c.in_ok-typed.typed.types c.in_ok-typed.scope c.in_ok-times.times c.in_ok-typed.problem
      c.in_ok-times.ensures.today.axioms c.in_ok-times.ensures.count c.in_ok-typed.ensures.scope c.in_ok-typed.ensures.problem;
}
