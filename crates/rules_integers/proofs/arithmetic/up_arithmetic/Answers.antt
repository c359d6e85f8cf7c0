use Rattle.std.proofs.Common.{◌∙◌, ap, None}
use Rattle.occ_domains.specs.Domains.{has, slot, is_normal}
use Rattle.rules_integers.specs.Arithmetic.{value_by, up_by}
use Rattle.rules_integers.proofs.ArithmeticLaws.{up_has, up_undefined, up_normal}
use Rattle.rules_integers.proofs.arithmetic.up_arithmetic.Goals as goal

pub returns-clause-sound : goal.returns-clause-sound
returns-clause-sound c = λ m n e f h k. ap (λ d. has d (slot (value_by c.args.operator m n))) c.risen.ensures ∙ up_has c.args.operator c.args.defined c.args.a c.args.b m n e f h k

pub returns-clause-undefined : goal.returns-clause-undefined
returns-clause-undefined c = λ e. ap (λ d. has d (slot None)) (c.risen.ensures ∙ ap (λ t. up_by c.args.operator t c.args.a c.args.b) e) ∙ up_undefined c.args.operator c.args.a c.args.b

pub returns-clause-normal : goal.returns-clause-normal
returns-clause-normal c = ap is_normal c.risen.ensures ∙ up_normal c.args.operator c.args.defined c.args.a c.args.b
