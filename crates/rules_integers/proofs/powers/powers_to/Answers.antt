use Rattle.std.proofs.Common.{◌∙◌, SFits, w64, rules}
use Rattle.std.proofs.Math.Facts.{to_z-of_z}
use Rattle.rules_integers.proofs.PowerLaws.{powers_some}
use Rattle.rules_integers.proofs.powers.powers_to.Goals as goal

pub returns-in-Some : goal.returns-in-Some
returns-in-Some c =
    let first_fits : SFits w64 c.args.a.hi = search rules in
    let second_fits : SFits w64 c.args.b.hi = search rules in
    let low_fits : SFits w64 c.in-Some.lowest = search rules in
    let high_fits : SFits w64 c.unwrap_or.result = search rules in
    let first = rw (to_z-of_z first_fits) at c.if-a-lt0.false in
    let second = rw (to_z-of_z second_fits) at c.if-b-lt0.false in
    let made = rw (to_z-of_z low_fits, to_z-of_z high_fits) at c.integers.ensures in
    made ∙ powers_some c.args.a c.args.b c.in-Some.lowest c.unwrap_or.result c.args.highest first second c.in-Some.ensures c.requires c.unwrap_or.ensures
