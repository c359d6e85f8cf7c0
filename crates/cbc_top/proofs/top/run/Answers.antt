use Rattle.cbc_words.specs.Words.{command_of}
use Rattle.cbc_answers.specs.declared.status.Status.TheVariants.{Refused}
use Rattle.model_text.specs.Refusals.{refusal_text}
use Rattle.cbc_top.proofs.Runs.{said_front}
use Rattle.cbc_top.proofs.top.run.Goals as goal

pub returns-in-Ok-clause-front : goal.returns-in-Ok-clause-front
returns-in-Ok-clause-front g c = λ cut.
    said_front (command_of c.args.words.now) (g.S.Source.files c.args.src.now) (g.S.Source.opened c.args.src.now) (g.S.Source.opened c.due_at.new.src) c.in-Ok.status c.say.result c.in-Ok.bytes _ _ _ _
    c.in-Ok.ensures.answered c.in-Ok.ensures.lawful (rw c.as_slice.ensures at c.say.ensures) cut

pub returns-in-Ok-line-clause-front : goal.returns-in-Ok-line-clause-front
returns-in-Ok-line-clause-front g c = λ cut.
    said_front (command_of c.args.words.now) (g.S.Source.files c.args.src.now) (g.S.Source.opened c.args.src.now) (g.S.Source.opened c.due_at.new.src) Refused c.say-in-Ok-line.result (refusal_text c.in-Err-Refused.refusal) _ _ _ _
    tt (rw c.in-Err-Refused.field-0-is at c.in-Err-Refused.ensures.lawful) (rw (c.as_slice-in-Ok-line.ensures, c.in-Ok-line.ensures) at c.say-in-Ok-line.ensures) cut
