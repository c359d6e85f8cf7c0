use Rattle.eb_meaning.proofs.ValuedSlots.{own_truth, given_values}
use Rattle.std.proofs.Common.{map, Some}
use Rattle.eb_meaning.proofs.laws.facts_over_values_have_their_own_truth.Goals as goal

pub returns-clause-slots : goal.returns-clause-slots
returns-clause-slots c = own_truth

pub returns-clause-values : goal.returns-clause-values
returns-clause-values c = λ scope values fact. own_truth scope (map (λ v. Some v) values) fact (given_values values)
