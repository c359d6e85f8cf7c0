use Rattle.domain_changes.proofs.PartRoom.{parts_most}
use Rattle.domain_changes.proofs.laws.parts_leave_no_more_room.Goals as goal

pub returns : goal.returns
returns c = record { parts = λ d t two normal h. parts_most d t two h }
