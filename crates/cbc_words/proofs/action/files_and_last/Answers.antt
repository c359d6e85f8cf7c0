use Rattle.std.proofs.Common.{refl}
use Rattle.cbc_words.proofs.RestLaws.{files_and_last-append}
use Rattle.cbc_words.proofs.action.files_and_last.Goals as goal

pub returns : goal.returns
returns c =
    rw (c.in_ok-last.ensures, files_and_last-append c.pop.new.self c.in_ok-last.last, ← c.in_ok-files.ensures) refl
