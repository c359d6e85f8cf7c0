use Rattle.std.proofs.Common.{◌∙◌, ap}
use Rattle.eb_operations.specs.Arithmetic.{quotient}
use Rattle.occ_domains.specs.Domains.{has, slot, is_normal}
use Rattle.rules_integers.proofs.QuotientLaws.{quotient_sound, quotient_normal}
use Rattle.rules_integers.proofs.products.up_quotient.Goals as goal

pub returns-clause-sound : goal.returns-clause-sound
returns-clause-sound c = λ m n in_m in_n h k. ap (λ d. has d (slot (quotient m n))) c.quotients.ensures ∙ quotient_sound c.args.defined c.args.a c.args.b m n in_m in_n h k

pub returns-clause-normal : goal.returns-clause-normal
returns-clause-normal c = ap is_normal c.quotients.ensures ∙ quotient_normal c.args.defined c.args.a c.args.b
