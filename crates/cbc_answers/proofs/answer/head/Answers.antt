use Rattle.std.proofs.Common.{arith}
use Rattle.cbc_answers.specs.Answers as spec
use Rattle.cbc_answers.proofs.PushedTexts.{part_more}
use Rattle.cbc_answers.proofs.answer.head.Goals as goal

pub loop-note-preserved : goal.loop-note-preserved
loop-note-preserved c =
    part_more spec.note_text c.args.notes.now c.loop-note.note-index c.note-item.result c.loop-note.text.items c.push_note.new.text.items _ (omega arith) c.note-item.is c.in_ok-push_note.ensures c.loop-note.invariant
