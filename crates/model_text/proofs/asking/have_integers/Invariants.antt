use Rattle.std.proofs.Common.{drop}
use Rattle.model_text.proofs.AskingLaws.{SameIntegers}
use Rattle.model_text.proofs.asking.have_integers.Given as goal

abbrev pub invariant-loop-part : goal.invariant-loop-part
invariant-loop-part l = SameIntegers l.types l.model.parts (drop l.part-index l.model.parts)
