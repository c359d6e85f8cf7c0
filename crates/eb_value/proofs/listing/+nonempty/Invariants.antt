use Rattle.std.proofs.Common.{length}
use Rattle.eb_value.proofs.listing.+nonempty.Given as goal

abbrev pub decreases-nonempty : goal.decreases-nonempty
decreases-nonempty l = length l.members.now
