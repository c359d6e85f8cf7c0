use Rattle.std.proofs.Common.{◌≡◌}
use Rattle.cbc_answers.specs.steps.Repeating.{repeated}
use Rattle.cbc_answers.proofs.answer.repeated.Given as goal

abbrev pub invariant-loop : goal.invariant-loop
invariant-loop l = l.all.items ≡ repeated l.counter l.text
