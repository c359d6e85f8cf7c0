use Rattle.std.proofs.Common.{rules}
use Rattle.eb_value.proofs.ListingLaws.{atoms_more}
use Rattle.eb_value.proofs.listing.atoms.Goals as goal

pub loop-number-preserved : goal.loop-number-preserved
loop-number-preserved c = search (rules, atoms_more c.args.place c.loop-number.number)
