use Rattle.std.proofs.Common.{◌∙◌, ap, ◌+ℤ◌, ◌-ℤ◌}
use Rattle.rules_integers.specs.Ends.{within}
use Rattle.rules_integers.proofs.RangeLaws.{within_saturated}
use Rattle.rules_integers.proofs.sums.terms.Goals as goal

pub returns-in-First : goal.returns-in-First
returns-in-First c =
    let whole = c.args.whole in
    let other = c.args.other in
    rw c.in-First.is (c.within.ensures ∙ ap within c.span_of_sums.ensures ∙ within_saturated (record { lo = whole.lo +ℤ other.lo; hi = whole.hi +ℤ other.hi }))

pub returns-in-Second : goal.returns-in-Second
returns-in-Second c =
    let whole = c.args.whole in
    let other = c.args.other in
    rw c.in-Second.is (c.within-in-Second.ensures ∙ ap within c.span_of_differences.ensures ∙ within_saturated (record { lo = other.lo -ℤ whole.hi; hi = other.hi -ℤ whole.lo }))
