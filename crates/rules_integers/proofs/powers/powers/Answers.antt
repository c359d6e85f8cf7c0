use Rattle.std.proofs.Common.{SFits, w64, rules}
use Rattle.std.proofs.Math.Facts.{to_z-of_z}
use Rattle.eb_operations.specs.Arithmetic.{power}
use Rattle.rules_integers.proofs.powers.powers.Goals as goal

pub returns : goal.returns
returns c =
    let first_fits : SFits w64 c.args.a.lo = search rules in
    let second_fits : SFits w64 c.args.b.lo = search rules in
    let made = rw (to_z-of_z first_fits, to_z-of_z second_fits) at c.power.ensures in
    rw (c.powers_to-body.ensures, c.may_be_undefined-undefined.ensures) at c.by_ends.ensures power made
