use Rattle.std.proofs.Common.{◌≡◌, ◌++◌, drop, map}
use Rattle.cbc_answers.specs.Answers as spec
use Rattle.cbc_answers.proofs.answer.push_constants.Given as goal

abbrev pub invariant-loop-k : goal.invariant-loop-k
invariant-loop-k l = l.text.items ++ spec.constants_text l.sets (drop l.k (map (λ x. x.now) l.constants)) (drop l.k l.values) ≡ l.fn.text.items ++ spec.constants_text l.sets (map (λ x. x.now) l.constants) l.values
