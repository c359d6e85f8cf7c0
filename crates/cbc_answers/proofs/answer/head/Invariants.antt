use Rattle.std.proofs.Common.{◌≡◌, ◌++◌, drop, codes}
use Rattle.std.specs.List.{flat_map}
use Rattle.cbc_answers.specs.Answers as spec
use Rattle.cbc_answers.proofs.answer.head.Given as goal

abbrev pub invariant-loop-note : goal.invariant-loop-note
invariant-loop-note l = l.text.items ++ flat_map spec.note_text (drop l.note-index l.notes) ≡ codes "query axioms\n" ++ flat_map spec.note_text l.notes
