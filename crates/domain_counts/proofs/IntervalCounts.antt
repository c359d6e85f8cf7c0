-- How many integers intervals have.
use Rattle.std.proofs.Common.{◌≡◌, ◌≤◌, ◌+◌, true, false, ℤ, arith}
use Rattle.std.proofs.lemmas.Int.{ints, clamps}
use Rattle.int_dom.specs.declared.interval.Interval.{Interval}
use Rattle.int_dom.specs.Intervals.{is_empty, is_single, size, at_most, above}
use Rattle.occ_domains.specs.Bodies.{common}

pub size_empty : (d : Interval) → is_empty d ≡ true → size d ≡ 0
size_empty d h = grind (arith, ints)

pub size_filled : (d : Interval) → is_empty d ≡ false → 1 ≤ size d
size_filled d h = grind (arith, ints)

pub size_several : (d : Interval) → is_empty d ≡ false → is_single d ≡ false → 2 ≤ size d
size_several d h k = grind (arith, ints)

pub size_common : (c d : Interval) → size (common c d) ≤ size c
size_common c d = grind (arith, ints, clamps)

pub size_parts : (n : ℤ) (d : Interval) → size (at_most n d) + size (above n d) ≤ size d
size_parts n d = grind (arith, ints, clamps)
