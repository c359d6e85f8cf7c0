use Rattle.std.proofs.Common.{◌∙◌, sym}
use Rattle.cbc_words.proofs.number.small_number.Goals as goal
use Rattle.cbc_words.proofs.NumberLaws.{then_some_if, small_of, small_fails, plus_is_none, plus_from_test, no_plus_from_test}

pub returns-in-Ok : goal.returns-in-Ok
returns-in-Ok c =
    let plain = no_plus_from_test c.args.text.now (sym c.has_plus.ensures ∙ c.if-has_plus.false) in
    c.then_some.ensures ∙ (then_some_if _ _ ∙ small_of c.args.text.now c.in-Ok.number plain c.in-Ok.ensures.value.0)

pub returns-in-Err : goal.returns-in-Err
returns-in-Err c =
    let plain = no_plus_from_test c.args.text.now (sym c.has_plus.ensures ∙ c.if-has_plus.false) in
    small_fails c.args.text.now plain c.in-Err.ensures.value.0

pub returns-then-has_plus : goal.returns-then-has_plus
returns-then-has_plus c =
    plus_is_none c.args.text.now (plus_from_test c.args.text.now (sym c.has_plus.ensures ∙ c.if-has_plus.true))
