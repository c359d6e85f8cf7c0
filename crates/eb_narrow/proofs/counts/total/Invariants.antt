use Rattle.std.proofs.Common.{◌≡◌, take}
use Rattle.eb_narrow.specs.steps.Counting.{capped}
use Rattle.eb_narrow.proofs.counts.total.Given as goal

abbrev pub invariant-loop-number : goal.invariant-loop-number
invariant-loop-number l = l.total ≡ capped (take l.number-index l.numbers)
