use Rattle.std.proofs.Common.{refl, ◌≤ℤ◌, ◌<ℤ◌, pos, arith}
use Rattle.std.proofs.lemmas.Int.{ints}
use Rattle.std.proofs.Math.Facts.{to_z-of_z}
use Rattle.eb_operations.proofs.Powers.{low, high}
use Rattle.eb_operations.proofs.arithmetic.high_power.Goals as goal

pub returns-then-m-le1 : goal.returns-then-m-le1
returns-then-m-le1 c =
    let small : c.args.m ≤ℤ pos 1 = grind (arith, ints) in
    let made = rw (to_z-of_z c.ranges.m) at c.defined_int.ensures in
    rw (low c.args.m c.args.n c.requires.base small c.requires.exponent) made

pub returns-else-m-le1 : goal.returns-else-m-le1
returns-else-m-le1 c =
    let large : pos 1 <ℤ c.args.m = grind (arith, ints) in
    rw (high c.args.m c.args.n large c.requires.exponent) refl
