use Rattle.std.proofs.Common.{arith, ◌∙◌, ap, sym, ◌+◌, ◌≡◌, take}
use Rattle.std.specs.Char.{len_utf8}
use Rattle.eb_lexer.specs.Tokens as spec
use Rattle.eb_lexer.proofs.Sizes.{size_more, size_take}
use Rattle.eb_lexer.proofs.lexer.size.Goals as goal

pub overflow_add-bytes : goal.overflow_add-bytes
overflow_add-bytes c =
    let more : spec.size (take (c.loop-c.c-index + 1) c.args.text.now) ≡ c.loop-c.bytes + c.len_utf8.result =
    size_more c.args.text.now c.loop-c.c-index c.c-item.result (omega arith) c.c-item.is
    ∙ ap (λ n. n + len_utf8 c.c-item.result) (sym c.loop-c.invariant) ∙ ap (λ n. c.loop-c.bytes + n) (sym c.len_utf8.ensures.value) in
    omega (arith, more, size_take c.args.text.now (c.loop-c.c-index + 1))

pub loop-c-preserved : goal.loop-c-preserved
loop-c-preserved c =
    sym (size_more c.args.text.now c.loop-c.c-index c.c-item.result (omega arith) c.c-item.is
    ∙ ap (λ n. n + len_utf8 c.c-item.result) (sym c.loop-c.invariant) ∙ ap (λ n. c.loop-c.bytes + n) (sym c.len_utf8.ensures.value))
