use Rattle.std.proofs.Common.{sym, subst}
use Rattle.int_dom.specs.Intervals.{Has}
use Rattle.rules_integers.proofs.ArithmeticLaws.{down_has}
use Rattle.rules_integers.proofs.arithmetic.down_arithmetic.Goals as goal

pub returns-clause-sound : goal.returns-clause-sound
returns-clause-sound c = λ m n v e f g h j k. subst (λ d. Has d m) (sym c.fallen.ensures) (down_has c.args.operator c.args.side c.args.whole c.args.part c.args.other m n v e f g h j k)
