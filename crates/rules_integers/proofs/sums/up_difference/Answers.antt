use Rattle.std.proofs.Common.{◌∙◌, ap, None}
use Rattle.occ_domains.specs.Domains.{has, slot, is_normal}
use Rattle.rules_integers.specs.Sums.{difference, up_difference}
use Rattle.rules_integers.proofs.SumLaws.{difference_sound, difference_undefined, difference_normal}
use Rattle.rules_integers.proofs.sums.up_difference.Goals as goal

pub returns-clause-sound : goal.returns-clause-sound
returns-clause-sound c = λ m n h k. ap (λ d. has d (slot (difference m n))) c.differences.ensures ∙ difference_sound c.args.defined c.args.a c.args.b m n h k

pub returns-clause-undefined : goal.returns-clause-undefined
returns-clause-undefined c = λ e. ap (λ d. has d (slot None)) (c.differences.ensures ∙ ap (λ t. up_difference t c.args.a c.args.b) e) ∙ difference_undefined c.args.a c.args.b

pub returns-clause-normal : goal.returns-clause-normal
returns-clause-normal c = ap is_normal c.differences.ensures ∙ difference_normal c.args.defined c.args.a c.args.b
