use Rattle.std.proofs.Common.{◌∙◌, sym}
use Rattle.eb_value.proofs.ReadingSteps.{after_short}
use Rattle.eb_value.proofs.read.after.Goals as goal

pub returns-in_default : goal.returns-in_default
returns-in_default c = sym (sym c.loop-byte.invariant ∙ after_short c.args.front.now c.loop-byte.rest.now c.loop-byte.byte-index c.loop-byte-test.true c.in_default.len_below)
