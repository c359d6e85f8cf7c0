use Rattle.std.proofs.Common.{◌≡◌, ◌++◌, take}
use Rattle.eb_spelling.specs.Spelling.{text_of}
use Rattle.eb_spelling.proofs.spelling.text_of.Given as goal

abbrev pub invariant-loop-kind : goal.invariant-loop-kind
invariant-loop-kind l = l.text.items ≡ l.initial.text.items ++ text_of (take l.kind-index l.kinds)
