use Rattle.std.proofs.Common.{◌≡◌, true, sym, subst}
use Rattle.eb_operations.specs.Arithmetic.{power}
use Rattle.occ_domains.specs.Domains.{has, slot, is_normal}
use Rattle.rules_integers.proofs.PowerLaws.{up_power_has, up_power_normal}
use Rattle.rules_integers.proofs.powers.up_power.Goals as goal

pub returns-clause-sound : goal.returns-clause-sound
returns-clause-sound c m n p q = subst (λ d. has d (slot (power m n)) ≡ true) (sym c.powers.ensures) (up_power_has c.args.a c.args.b m n p q c.args.defined)

pub returns-clause-normal : goal.returns-clause-normal
returns-clause-normal c = subst (λ d. is_normal d ≡ true) (sym c.powers.ensures) (up_power_normal c.args.defined c.args.a c.args.b)
