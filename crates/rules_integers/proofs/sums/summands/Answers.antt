use Rattle.std.proofs.Common.{◌∙◌, ap, ◌-ℤ◌}
use Rattle.rules_integers.specs.Ends.{within}
use Rattle.rules_integers.proofs.RangeLaws.{within_saturated}
use Rattle.rules_integers.proofs.sums.summands.Goals as goal

pub returns : goal.returns
returns c =
    let whole = c.args.whole in
    let other = c.args.other in
    c.within.ensures ∙ ap within c.span_of_differences.ensures ∙ within_saturated (record { lo = whole.lo -ℤ other.hi; hi = whole.hi -ℤ other.lo })
