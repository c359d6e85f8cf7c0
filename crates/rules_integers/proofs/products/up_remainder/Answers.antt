use Rattle.std.proofs.Common.{◌∙◌, ap}
use Rattle.eb_operations.specs.Arithmetic.{remainder}
use Rattle.occ_domains.specs.Domains.{has, slot, is_normal}
use Rattle.rules_integers.proofs.RemainderLaws.{remainder_sound, remainder_normal}
use Rattle.rules_integers.proofs.products.up_remainder.Goals as goal

pub returns-clause-sound : goal.returns-clause-sound
returns-clause-sound c = λ m n in_m h k. ap (λ d. has d (slot (remainder m n))) c.remainders.ensures ∙ remainder_sound c.args.defined c.args.a c.args.b m n in_m h k

pub returns-clause-normal : goal.returns-clause-normal
returns-clause-normal c = ap is_normal c.remainders.ensures ∙ remainder_normal c.args.defined c.args.a c.args.b
