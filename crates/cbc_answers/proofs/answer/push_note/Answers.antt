use Rattle.cbc_answers.proofs.PushedTexts.{note_pushed}
use Rattle.cbc_answers.proofs.answer.push_note.Goals as goal

pub returns : goal.returns
returns c =
    note_pushed c.extend_from_slice.result c.args.text.now.items c.push_name.new.text.items c.push_name-2.new.text.items c.extend_from_slice.new.self.items c.args.note.now
    c.in_ok-push_name.ensures c.in_ok-push_name-2.ensures c.extend_from_slice.ensures.items
