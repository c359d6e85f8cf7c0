use Rattle.std.proofs.Common.{arith, ◌∙◌, ap, sym, ◌++◌}
use Rattle.std.specs.Char.{encode_utf8}
use Rattle.eb_lexer.proofs.Sizes.{encodes_more}
use Rattle.eb_lexer.proofs.pieces.name_of.Goals as goal

pub loop-c-preserved : goal.loop-c-preserved
loop-c-preserved c =
    c.in_ok-push.ensures.bytes ∙ ap (λ z. z ++ encode_utf8 c.c-item.result) c.loop-c.invariant
    ∙ sym (encodes_more c.args.chars.now c.loop-c.c-index c.c-item.result (omega arith) c.c-item.is)
