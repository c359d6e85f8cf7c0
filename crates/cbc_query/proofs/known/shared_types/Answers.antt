use Rattle.std.proofs.Common.{◌∙◌, ◌∷◌, [], ◌++◌, sym, ap₂, arith}
use Rattle.cbc_query.proofs.Typings.{type_next}
use Rattle.cbc_query.proofs.known.shared_types.Goals as goal

pub loop-number-preserved : goal.loop-number-preserved
loop-number-preserved c =
    c.in_ok-push.ensures.ok
    ∙ (ap₂ (λ xs t. xs ++ t ∷ []) c.loop-number.invariant (c.in_ok-shared.ensures ∙ c.in_ok-written.ensures)
    ∙ sym (type_next c.args.types.now c.loop-number.number (omega arith)))
