use Rattle.std.proofs.Common.{[]}
use Rattle.eb_scoping.proofs.MarkLaws.{marks_same}
use Rattle.eb_scoping.proofs.models.marks_are_determined.Goals as goal

pub returns : goal.returns
returns c = λ us bs cs m n. marks_same us [] us bs cs m n
