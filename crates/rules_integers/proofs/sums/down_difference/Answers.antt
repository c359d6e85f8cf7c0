use Rattle.std.proofs.Common.{sym, subst}
use Rattle.int_dom.specs.Intervals.{Has}
use Rattle.rules_integers.proofs.SumLaws.{difference_left}
use Rattle.rules_integers.proofs.sums.down_difference.Goals as goal

pub returns-clause-sound : goal.returns-clause-sound
returns-clause-sound c = λ m n e h k. subst (λ d. Has d m) (sym c.terms.ensures) (difference_left c.args.side c.args.whole c.args.other m n e h k)
