use Rattle.std.proofs.Common.{◌≡◌, true}
use Rattle.std.proofs.Math.Facts.{to_z-of_z}
use Rattle.eb_value.specs.Typing.{in_range}
use Rattle.tree_lines.proofs.NumberLaws.{small_fits}
use Rattle.tree_lines.proofs.tests.fitting_test.Goals as goal

pub returns-in-AtMost-Some : goal.returns-in-AtMost-Some
returns-in-AtMost-Some c =
    let small : in_range c.in-AtMost-Some.n ≡ true = rw c.in-AtMost-Some.is-0 at c.requires.small in
    rw (c.in-AtMost-Some.is-0, c.in-AtMost-Some.is-1) (rw (to_z-of_z (small_fits c.in-AtMost-Some.n small)) at (c.at_most.ensures c.args.scope.now c.args.names.now))
