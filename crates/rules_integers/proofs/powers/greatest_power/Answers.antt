use Rattle.std.proofs.Common.{SFits, w64, rules}
use Rattle.std.proofs.Math.Facts.{to_z-of_z}
use Rattle.rules_integers.proofs.PowerLaws.{highest_some, highest_none}
use Rattle.rules_integers.proofs.powers.greatest_power.Goals as goal

pub returns-in-Some : goal.returns-in-Some
returns-in-Some c =
    let first_fits : SFits w64 c.args.a.hi = search rules in
    let second_fits : SFits w64 c.args.b.hi = search rules in
    let low_fits : SFits w64 c.natural.result = search rules in
    let high_fits : SFits w64 c.natural-2.result = search rules in
    let given_fits : SFits w64 c.in-Some.highest = search rules in
    let made_fits : SFits w64 c.max.result = search rules in
    let first = rw (to_z-of_z first_fits) at c.natural.ensures in
    let second = rw (to_z-of_z second_fits) at c.natural-2.ensures in
    let made = rw (to_z-of_z low_fits, to_z-of_z high_fits) at c.in-Some.ensures in
    let greater = rw (to_z-of_z given_fits) at c.max.ensures.value in
    rw (to_z-of_z made_fits) (highest_some c.args.a c.args.b c.natural.result c.natural-2.result first second c.in-Some.highest c.max.result made greater)

pub returns-in-None : goal.returns-in-None
returns-in-None c =
    let first_fits : SFits w64 c.args.a.hi = search rules in
    let second_fits : SFits w64 c.args.b.hi = search rules in
    let low_fits : SFits w64 c.natural.result = search rules in
    let high_fits : SFits w64 c.natural-2.result = search rules in
    let first = rw (to_z-of_z first_fits) at c.natural.ensures in
    let second = rw (to_z-of_z second_fits) at c.natural-2.ensures in
    let made = rw (to_z-of_z low_fits, to_z-of_z high_fits) at c.in-None.ensures in
    highest_none c.args.a c.args.b c.natural.result c.natural-2.result first second made
