use Rattle.eb_value.proofs.OrderLaws.{reflexive, exact, reversed, transitive}
use Rattle.eb_value.proofs.laws.order_is_total.Goals as goal

pub returns-clause-reflexive : goal.returns-clause-reflexive
returns-clause-reflexive c = reflexive

pub returns-clause-exact : goal.returns-clause-exact
returns-clause-exact c = exact

pub returns-clause-reversed : goal.returns-clause-reversed
returns-clause-reversed c = reversed

pub returns-clause-transitive : goal.returns-clause-transitive
returns-clause-transitive c = transitive
