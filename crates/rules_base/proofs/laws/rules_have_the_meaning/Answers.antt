use Rattle.rules_base.proofs.MeaningLaws.{unary_comes, binary_comes}
use Rattle.rules_base.proofs.laws.rules_have_the_meaning.Goals as goal

pub returns-clause-unary : goal.returns-clause-unary
returns-clause-unary c = λ o rule a env x z r h e. unary_comes a env o rule x z r h e

pub returns-clause-binary : goal.returns-clause-binary
returns-clause-binary c = λ o rule a b env x y z r h k e. binary_comes a b env o rule x y z r h k e
