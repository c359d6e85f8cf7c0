use Rattle.std.proofs.Common.{◌∙◌, ap, None}
use Rattle.occ_domains.specs.Domains.{has, slot, is_normal}
use Rattle.rules_integers.specs.Sums.{sum, up_sum}
use Rattle.rules_integers.proofs.SumLaws.{sum_sound, sum_undefined, sum_normal}
use Rattle.rules_integers.proofs.sums.up_sum.Goals as goal

pub returns-clause-sound : goal.returns-clause-sound
returns-clause-sound c = λ m n h k. ap (λ d. has d (slot (sum m n))) c.sums.ensures ∙ sum_sound c.args.defined c.args.a c.args.b m n h k

pub returns-clause-undefined : goal.returns-clause-undefined
returns-clause-undefined c = λ e. ap (λ d. has d (slot None)) (c.sums.ensures ∙ ap (λ t. up_sum t c.args.a c.args.b) e) ∙ sum_undefined c.args.a c.args.b

pub returns-clause-normal : goal.returns-clause-normal
returns-clause-normal c = ap is_normal c.sums.ensures ∙ sum_normal c.args.defined c.args.a c.args.b
