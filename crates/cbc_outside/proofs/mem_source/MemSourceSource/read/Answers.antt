use Rattle.std.proofs.Common.{◌≡◌, ◌∙◌, ap, drop, ◌++◌, ◌+◌, sym, Some}
use Rattle.cbc_outside.specs.Memory.{bytes_at, SourceState}
use Rattle.cbc_outside.specs.steps.OpenFile.{rest_of}
use Rattle.cbc_outside.proofs.KnownParts.{next_part}
use Rattle.cbc_outside.proofs.mem_source.MemSourceSource.read.Goals as goal

pub returns-clause-bytes : goal.returns-clause-bytes
returns-clause-bytes c =
    let bytes = bytes_at c.self.inside.files c.in-Some.file.place in
    let now_open : c.self.inside.current ≡ Some c.in-Some.file = cc (c.in-Some.is, c.take.ensures.value) in
    ap (λ (s : SourceState). s.rest) (sym c.self.view_is) ∙ ap (rest_of c.self.inside.files) now_open
    ∙ next_part bytes c.in-Some.file.at c.copy_part-count.result ∙ ap (λ front. front ++ drop (c.in-Some.file.at + c.copy_part-count.result) bytes) (sym (rw c.as_slice-2.ensures at c.copy_part-count.ensures.copied))
