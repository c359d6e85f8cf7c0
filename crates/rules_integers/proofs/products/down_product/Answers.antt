use Rattle.std.proofs.Common.{sym, subst}
use Rattle.int_dom.specs.Intervals.{Has}
use Rattle.rules_integers.proofs.QuotientLaws.{down_product_sound}
use Rattle.rules_integers.proofs.products.down_product.Goals as goal

pub returns-clause-sound : goal.returns-clause-sound
returns-clause-sound c = λ m n in_m in_n in_product k h. subst (λ d. Has d m) (sym c.factors.ensures) (down_product_sound c.args.whole c.args.other m n in_m in_n in_product k h)
