use Rattle.cbc_answers.proofs.answering.checked.Goals as goal

pub check_text-requires-clause-scope : goal.check_text-requires-clause-scope
check_text-requires-clause-scope c = c.requires.lawful.small.some
