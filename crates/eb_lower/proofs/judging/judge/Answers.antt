use Rattle.std.proofs.Common.{[]}
use Rattle.eb_lower.proofs.UnitLaws.{marks_length}
use Rattle.eb_lower.proofs.judging.judge.Goals as goal

pub parts-requires : goal.parts-requires
parts-requires c = marks_length c.args.units.now [] c.args.units.now c.args.marks.now c.requires.marked
